-- Which checks are run in the worked example of verifiers.
use mathlib.Core.Path.{◌≡◌, refl, sym, ap, ◌∙◌, subst}
use Rattle.std.proofs.Common.{ℕ, ◌+◌, ◌*◌, ◌⊎◌, inl, inr, Bool, true, false, Option, Some, None, List, [], ◌∷◌, ◌++◌, map, arith}
use Rattle.std.specs.Prelude.{codes, slice_get}
use Rattle.std.specs.Option.{option_map_or}
use Rattle.ir_model.specs.declared.ids.ArenaIndex.{ArenaIndex}
use Rattle.ir_model.specs.ContextIds.{context_ids}
use Rattle.ir_model.specs.Forest.{Text, Value, Named, Entity, an_op, a_block, a_region, Definer, of_op, of_block, Definition, OpRecord, a_value, the_block, definer_entity}
use Rattle.ir_model.specs.Nesting.{In, Inside, itself, below, IsLinked, children, list_of, names_of, definitions_of}
use Rattle.ir_model.specs.Edits.{The}
use Rattle.ir_model.specs.BlockGraph.{is_terminator_interface, no_terminator_interface}
use Rattle.ir_model.specs.Names.{IsBlockName}
use Rattle.ir_model.specs.Faults.{Fault, NamesBlock, NoParent, MissingTerminator, TerminatorNotLast, EntryHasPred, OperandNotUseOfDef, Verifier, Root, the_entity, the_value, the_type, the_typed, the_attribute, Check, op_list, op_own, attr_list, attr_own, type_list, type_own, Carries, HasKey, CountsBlock, CountsOp, CountsAttribute, CountsType, CountsTyped, IsRun, FaultStands}
use Rattle.ir_model.specs.Verifiers.{checks_of, CodeStands, MemoryStands}
use Rattle.ir_model.specs.VerifyAnswers.{block_fault, BlockFault, missing_terminator, terminator_not_last, no_parent, entry_has_pred}
use Rattle.ir_model.specs.IdForests.{first, second, third}
use Rattle.ir_model.specs.VerifierRows.{May, numbered, module_kinds, three_types, typed, op_with, its_block, checked, own_codes, by_number, CodesAre, its_result, its_argument, VerifierRows}
use Rattle.ir_model.proofs.Nests.{In-append, In-left, In-right}
use Rattle.ir_model.proofs.FaultRows.{at_three}
use Rattle.ir_model.proofs.AnswerRows.{any_three}
use Rattle.ir_model.proofs.Insides.{inside_list}

-- the code of each check
code_of : Check numbered → ℕ
code_of (op_list n o) = n * 10 + o.slot
code_of (op_own o) = o.slot
code_of (attr_list n a) = 100 + n * 10 + a
code_of (attr_own a) = 100 + a
code_of (type_list n key) = 200 + n * 10 + key
code_of (type_own key) = 200 + key

code_stands : (spent : ℕ) (c : Check numbered) (code : ℕ) → CodeStands by_number (own_codes spent) tt c code → code ≡ code_of c
unfolding code_of
code_stands spent (op_list n o) code h = h
code_stands spent (op_own o) code h = h
code_stands spent (attr_list n a) code h = h
code_stands spent (attr_own a) code h = h
code_stands spent (type_list n key) code h = h
code_stands spent (type_own key) code h = h

stands_code : (spent : ℕ) (c : Check numbered) (code : ℕ) → code ≡ code_of c → CodeStands by_number (own_codes spent) tt c code
unfolding code_of
stands_code spent (op_list n o) code h = h
stands_code spent (op_own o) code h = h
stands_code spent (attr_list n a) code h = h
stands_code spent (attr_own a) code h = h
stands_code spent (type_list n key) code h = h
stands_code spent (type_own key) code h = h

memory_stands : (spent : ℕ) (c : Check numbered) → MemoryStands by_number (own_codes spent) tt c → spent ≡ code_of c
unfolding code_of
memory_stands spent (op_list n o) h = h
memory_stands spent (op_own o) h = h
memory_stands spent (attr_list n a) h = h
memory_stands spent (attr_own a) h = h
memory_stands spent (type_list n key) h = h
memory_stands spent (type_own key) h = h

stands_memory : (spent : ℕ) (c : Check numbered) → spent ≡ code_of c → MemoryStands by_number (own_codes spent) tt c
unfolding code_of
stands_memory spent (op_list n o) h = h
stands_memory spent (op_own o) h = h
stands_memory spent (attr_list n a) h = h
stands_memory spent (attr_own a) h = h
stands_memory spent (type_list n key) h = h
stands_memory spent (type_own key) h = h

module _ (root : Root numbered) (these : List ℕ) where
  abbrev Runs : ℕ → Check numbered → Type 0
  Runs spent c = IsRun module_kinds checked three_types (checks_of by_number (own_codes spent) tt) root c

  abbrev AtFault : ℕ → Fault → Type 0
  AtFault spent = FaultStands module_kinds checked three_types (checks_of by_number (own_codes spent) tt) root

  -- a fault is a verifier's
  abbrev Quiet : Type 0
  Quiet = (spent : ℕ) (fault : Fault) → AtFault spent fault → (code : ℕ) × (fault ≡ Verifier code)

  codes_are : ((spent : ℕ) (c : Check numbered) → Runs spent c → In (code_of c) these) → ((spent code : ℕ) → In code these → (c : Check numbered) × Runs spent c × (code ≡ code_of c)) → Quiet → CodesAre root these
  codes_are there back quiet = record {
    told = λ spent code. (
      λ h. subst (λ n. In n these) (sym (code_stands spent h.0 code h.2)) (there spent h.0 h.1),
      λ h. (let at = back spent code h in (at.0, at.1, stands_code spent at.0 code at.2)),
    );
    memory = λ spent. (
      λ h. elim h [
        | inl x ↦ absurd (let at = quiet spent x.0 x.2 in let n = subst NamesBlock at.1 x.1 in n)
        | inr x ↦ subst (λ n. In n these) (sym (memory_stands spent x.0 x.2)) (there spent x.0 x.1)
      ],
      λ h. (let at = back spent spent h in inr (at.0, at.1, stands_memory spent at.0 at.2)),
    );
    no_block_fault = loud;
    no_stray_use = λ spent h. (let at = quiet spent OperandNotUseOfDef h in cc);
  }
    where
      loud : (spent : ℕ) (fault : BlockFault) (name : Text) → May spent root (block_fault fault name) → ⊥
      loud spent missing_terminator name h = let at = quiet spent (MissingTerminator name) h in cc
      loud spent terminator_not_last name h = let at = quiet spent (TerminatorNotLast name) h in cc
      loud spent no_parent name h = let at = quiet spent (NoParent name) h in cc
      loud spent entry_has_pred name h = let at = quiet spent (EntryHasPred name) h in cc

-- ## What each entity brings

-- the entity has a result or an argument of the type
abbrev HasType : Entity context_ids → ℕ → Type 0
HasType e key = (d : Definer context_ids) × (x : Definition context_ids numbered) × (e ≡ definer_entity context_ids d) × In x (definitions_of checked d) × HasKey module_kinds checked three_types x.ty key

-- the check is run where the entity counts
abbrev Brings : Entity context_ids → Check numbered → Type 0
Brings e (op_list n o) = (e ≡ an_op o) × The (checked.ops o) (λ r. In n ((own_codes 0).op_verifiers r.kind))
Brings e (op_own o) = e ≡ an_op o
Brings e (attr_list n a) = Carries module_kinds checked three_types e a × In n ((own_codes 0).attr_verifiers (a + 6))
Brings e (attr_own a) = Carries module_kinds checked three_types e a
Brings e (type_list n key) = HasType e key × In n ((own_codes 0).type_verifiers (key + 6))
Brings e (type_own key) = HasType e key

module _ (root : Entity context_ids) (spent : ℕ) where
  brought : (c : Check numbered) → Runs (the_entity root) [] spent c → (e : Entity context_ids) × Inside checked root e × Brings e c
  brought (op_list n o) h = (an_op o, h.0, (refl, h.1))
  brought (op_own o) h = (an_op o, h, refl)
  brought (attr_list n a) h = (h.0.0, h.0.1, (h.0.2, h.1))
  brought (attr_own a) h = (h.0, h.1, h.2)
  brought (type_list n key) h = (definer_entity context_ids h.0.0, h.0.2, ((h.0.0, h.0.1, refl, h.0.3, h.0.4), h.1))
  brought (type_own key) (inl h) = (definer_entity context_ids h.0, h.2, (h.0, h.1, refl, h.3, h.4))
  brought (type_own key) (inr h) = absurd h

  brings : (e : Entity context_ids) (c : Check numbered) → Inside checked root e → Brings e c → Runs (the_entity root) [] spent c
  brings e (op_list n o) i h = (subst (Inside checked root) h.0 i, h.1)
  brings e (op_own o) i h = subst (Inside checked root) h i
  brings e (attr_list n a) i h = ((e, i, h.0), h.1)
  brings e (attr_own a) i h = (e, i, h)
  brings e (type_list n key) i h = ((h.0.0, h.0.1, subst (Inside checked root) h.0.2 i, h.0.3, h.0.4), h.1)
  brings e (type_own key) i h = inl (h.0, h.1, subst (Inside checked root) h.2 i, h.3, h.4)

-- the codes of what the entity brings are exactly these
record Exactly (e : Entity context_ids) (these : List ℕ) : Type 0 where
  pub there : (c : Check numbered) → Brings e c → In (code_of c) these
  pub back : (code : ℕ) → In code these → (c : Check numbered) × Brings e c × (code ≡ code_of c)

-- what holds of what is found
the_holds : {R : Type 0} (m : Option R) (r : R) (P : R → Type 0) → m ≡ Some r → The m P → P r
the_holds m r P e h = let s : Some h.value ≡ Some r = sym h.found ∙ e in let q : h.value ≡ r = cc in subst P q h.holds

-- what holds of one holds of each of a list of one
of_one : {A : Type 0} (P : A → Type 0) (m : A) → P m → (n : A) → In n (m ∷ []) → P n
of_one P m p n (inl e) = subst P (sym e) p
of_one P m p n (inr h) = elim h [ ]

-- the codes of an attribute, and of a type, stand in the list
abbrev AttrIn : List ℕ → ℕ → Type 0
AttrIn these a = In (100 + a) these × ((n : ℕ) → In n ((own_codes 0).attr_verifiers (a + 6)) → In (100 + n * 10 + a) these)

abbrev TypeIn : List ℕ → ℕ → Type 0
TypeIn these key = In (200 + key) these × ((n : ℕ) → In n ((own_codes 0).type_verifiers (key + 6)) → In (200 + n * 10 + key) these)

-- an operation's checks, those of its attributes and those of its results' types
module _ (o : ArenaIndex) (r : OpRecord context_ids numbered) (found : checked.ops o ≡ Some r) (these : List ℕ) where
  op_there : In o.slot these → ((n : ℕ) → In n ((own_codes 0).op_verifiers r.kind) → In (n * 10 + o.slot) these)
      → ((key : Text) (a : ℕ) → In (key, a) r.attributes → AttrIn these a) → ((x : Definition context_ids numbered) (key : ℕ) → In x r.results → HasKey module_kinds checked three_types x.ty key → TypeIn these key)
      → (c : Check numbered) → Brings (an_op o) c → In (code_of c) these
  unfolding code_of
  op_there own listed attributes results = by
    where
      same : (p : ArenaIndex) → ◌≡◌ {A = Entity context_ids} (an_op o) (an_op p) → o ≡ p
      same p e = cc

      carried : (a : ℕ) → Carries module_kinds checked three_types (an_op o) a → AttrIn these a
      carried a h = attributes h.0 a (subst (λ m. In (h.0, a) (list_of (λ (q : OpRecord context_ids numbered). q.attributes) m)) found h.1)

      has_type : (key : ℕ) → HasType (an_op o) key → TypeIn these key
      has_type key h = of h.0 h.1 h.2 h.3 h.4
        where
          of : (d : Definer context_ids) (x : Definition context_ids numbered) → ◌≡◌ {A = Entity context_ids} (an_op o) (definer_entity context_ids d) → In x (definitions_of checked d) → HasKey module_kinds checked three_types x.ty key → TypeIn these key
          of (of_op p) x e i k = results x key (subst (λ m. In x (list_of (λ (q : OpRecord context_ids numbered). q.results) m)) (ap checked.ops (sym (same p e)) ∙ found) i) k
          of (of_block b) x e i k = absurd cc

      by : (c : Check numbered) → Brings (an_op o) c → In (code_of c) these
      by (op_list n p) h =
          let e : o ≡ p = same p h.0 in
          let t : The (checked.ops o) (λ q. In n ((own_codes 0).op_verifiers q.kind)) = subst (λ i. The (checked.ops i) (λ q. In n ((own_codes 0).op_verifiers q.kind))) (sym e) h.1 in
          subst (λ i. In (n * 10 + i.slot) these) e (listed n (the_holds (checked.ops o) r (λ q. In n ((own_codes 0).op_verifiers q.kind)) found t))
      by (op_own p) h = subst (λ i. In i.slot these) (same p h) own
      by (attr_list n a) h = (carried a h.0).1 n h.1
      by (attr_own a) h = (carried a h).0
      by (type_list n key) h = (has_type key h.0).1 n h.1
      by (type_own key) h = (has_type key h).0

-- no number is listed for this kind
abbrev ListsNone : (ℕ → List ℕ) → ℕ → Type 0
ListsNone numbers kind = (n : ℕ) → In n (numbers kind) → ⊥

-- the attribute is this one
an_attribute : (these : List ℕ) (key at : Text) (m a : ℕ) → AttrIn these m → In {A = Text × ℕ} (at, a) ((key, m) ∷ []) → AttrIn these a
an_attribute these key at m a h (inl e) = subst (AttrIn these) (sym (ap (λ (p : Text × ℕ). p.1) e)) h
an_attribute these key at m a h (inr i) = elim i [ ]

-- the type at this place is this one
a_type : (these : List ℕ) (ty m key : ℕ) (body : Unit {0}) → slice_get three_types ty ≡ Some (record { key = m; body = body }) → TypeIn these m → HasKey module_kinds checked three_types ty key → TypeIn these key
a_type these ty m key body e h k = subst (TypeIn these) (the_holds (slice_get three_types ty) (record { key = m; body = body }) (λ t. t.key ≡ key) e k) h

module_codes : Exactly (an_op first) (21 ∷ 1 ∷ 111 ∷ 101 ∷ [])
unfolding code_of
module_codes = record { there = op_there first (op_with 5 [] (first ∷ []) ((codes "a", 1) ∷ [])) refl these (inr (inl refl)) listed (λ key a h. an_attribute these (codes "a") key 1 a attribute h) (λ x key h k. elim h [ ]); back = back }
  where
    these : List ℕ
    these = 21 ∷ 1 ∷ 111 ∷ 101 ∷ []

    listed : (n : ℕ) → In n (2 ∷ []) → In (n * 10 + 1) (21 ∷ 1 ∷ 111 ∷ 101 ∷ [])
    listed = of_one (λ n. In (n * 10 + 1) (21 ∷ 1 ∷ 111 ∷ 101 ∷ [])) 2 (inl refl)

    attribute : AttrIn (21 ∷ 1 ∷ 111 ∷ 101 ∷ []) 1
    attribute = (inr (inr (inr (inl refl))), of_one (λ n. In (100 + n * 10 + 1) (21 ∷ 1 ∷ 111 ∷ 101 ∷ [])) 1 (inr (inr (inl refl))))

    back : (code : ℕ) → In code (21 ∷ 1 ∷ 111 ∷ 101 ∷ []) → (c : Check numbered) × Brings (an_op first) c × (code ≡ code_of c)
    back code (inl e) = (op_list 2 first, (refl, record { value = _; found = refl; holds = inl refl }), e)
    back code (inr (inl e)) = (op_own first, refl, e)
    back code (inr (inr (inl e))) = (attr_list 1 1, ((codes "a", inl refl), inl refl), e)
    back code (inr (inr (inr (inl e)))) = (attr_own 1, (codes "a", inl refl), e)
    back code (inr (inr (inr (inr h)))) = elim h [ ]

abbrev inner : List ℕ
inner = 12 ∷ 2 ∷ 211 ∷ 201 ∷ 222 ∷ 202 ∷ []

inner_codes : Exactly (an_op second) inner
unfolding code_of
inner_codes = record { there = op_there second (op_with 4 (typed 0 0 ∷ typed 1 1 ∷ []) [] []) refl inner (inr (inl refl)) listed (λ key a h. elim h [ ]) result; back = back }
  where
    listed : (n : ℕ) → In n (1 ∷ []) → In (n * 10 + 2) inner
    listed = of_one (λ n. In (n * 10 + 2) inner) 1 (inl refl)

    one : TypeIn inner 1
    one = (inr (inr (inr (inl refl))), of_one (λ n. In (200 + n * 10 + 1) inner) 1 (inr (inr (inl refl))))

    two : TypeIn inner 2
    two = (inr (inr (inr (inr (inr (inl refl))))), of_one (λ n. In (200 + n * 10 + 2) inner) 2 (inr (inr (inr (inr (inl refl))))))

    result : (x : Definition context_ids numbered) (key : ℕ) → In x (typed 0 0 ∷ typed 1 1 ∷ []) → HasKey module_kinds checked three_types x.ty key → TypeIn inner key
    result x key (inl e) k = a_type inner 0 1 key tt refl one (subst (λ (y : Definition context_ids numbered). HasKey module_kinds checked three_types y.ty key) e k)
    result x key (inr (inl e)) k = a_type inner 1 2 key tt refl two (subst (λ (y : Definition context_ids numbered). HasKey module_kinds checked three_types y.ty key) e k)
    result x key (inr (inr h)) k = elim h [ ]

    first_type : HasType (an_op second) 1
    first_type = (of_op second, typed 0 0, refl, inl refl, record { value = _; found = refl; holds = refl })

    other_type : HasType (an_op second) 2
    other_type = (of_op second, typed 1 1, refl, inr (inl refl), record { value = _; found = refl; holds = refl })

    back : (code : ℕ) → In code inner → (c : Check numbered) × Brings (an_op second) c × (code ≡ code_of c)
    back code (inl e) = (op_list 1 second, (refl, record { value = _; found = refl; holds = inl refl }), e)
    back code (inr (inl e)) = (op_own second, refl, e)
    back code (inr (inr (inl e))) = (type_list 1 1, (first_type, inl refl), e)
    back code (inr (inr (inr (inl e)))) = (type_own 1, first_type, e)
    back code (inr (inr (inr (inr (inl e))))) = (type_list 2 2, (other_type, inl refl), e)
    back code (inr (inr (inr (inr (inr (inl e)))))) = (type_own 2, other_type, e)
    back code (inr (inr (inr (inr (inr (inr h)))))) = elim h [ ]

third_codes : Exactly (an_op third) (13 ∷ 3 ∷ 103 ∷ [])
unfolding code_of
third_codes = record { there = op_there third (op_with 4 [] [] ((codes "c", 3) ∷ [])) refl (13 ∷ 3 ∷ 103 ∷ []) (inr (inl refl)) listed (λ key a h. an_attribute (13 ∷ 3 ∷ 103 ∷ []) (codes "c") key 3 a (inr (inr (inl refl)), λ n h. elim h [ ]) h) (λ x key h k. elim h [ ]); back = back }
  where
    listed : (n : ℕ) → In n (1 ∷ []) → In (n * 10 + 3) (13 ∷ 3 ∷ 103 ∷ [])
    listed = of_one (λ n. In (n * 10 + 3) (13 ∷ 3 ∷ 103 ∷ [])) 1 (inl refl)

    back : (code : ℕ) → In code (13 ∷ 3 ∷ 103 ∷ []) → (c : Check numbered) × Brings (an_op third) c × (code ≡ code_of c)
    back code (inl e) = (op_list 1 third, (refl, record { value = _; found = refl; holds = inl refl }), e)
    back code (inr (inl e)) = (op_own third, refl, e)
    back code (inr (inr (inl e))) = (attr_own 3, (codes "c", inl refl), e)
    back code (inr (inr (inr h))) = elim h [ ]

abbrev outer : List ℕ
outer = 122 ∷ 102 ∷ 203 ∷ []

block_codes : Exactly (a_block first) outer
unfolding code_of
block_codes = record { there = there; back = back }
  where
    carried : (a : ℕ) → Carries module_kinds checked three_types (a_block first) a → AttrIn outer a
    carried a h = an_attribute outer (codes "b") h.0 2 a (inr (inl refl), of_one (λ n. In (100 + n * 10 + 2) outer) 2 (inl refl)) h.1

    of : (key : ℕ) (d : Definer context_ids) (x : Definition context_ids numbered) → ◌≡◌ {A = Entity context_ids} (a_block first) (definer_entity context_ids d) → In x (definitions_of checked d) → HasKey module_kinds checked three_types x.ty key → TypeIn outer key
    of key (of_op o) x e i k = absurd cc
    of key (of_block b) x e i k = let same : b ≡ first = cc in argument (subst (λ c. In x (definitions_of checked (of_block c))) same i)
      where
        argument : In x (typed 2 2 ∷ []) → TypeIn outer key
        argument (inl q) = a_type outer 2 3 key tt refl (inr (inr (inl refl)), λ n h. elim h [ ]) (subst (λ (y : Definition context_ids numbered). HasKey module_kinds checked three_types y.ty key) q k)
        argument (inr h) = elim h [ ]

    has_type : (key : ℕ) → HasType (a_block first) key → TypeIn outer key
    has_type key h = of key h.0 h.1 h.2 h.3 h.4

    there : (c : Check numbered) → Brings (a_block first) c → In (code_of c) outer
    there (op_list n o) h = absurd (let e = h.0 in cc)
    there (op_own o) h = absurd cc
    there (attr_list n a) h = (carried a h.0).1 n h.1
    there (attr_own a) h = (carried a h).0
    there (type_list n key) h = (has_type key h.0).1 n h.1
    there (type_own key) h = (has_type key h).0

    back : (code : ℕ) → In code outer → (c : Check numbered) × Brings (a_block first) c × (code ≡ code_of c)
    back code (inl e) = (attr_list 2 2, ((codes "b", inl refl), inl refl), e)
    back code (inr (inl e)) = (attr_own 2, (codes "b", inl refl), e)
    back code (inr (inr (inl e))) = (type_own 3, (of_block first, typed 2 2, refl, inl refl, record { value = _; found = refl; holds = refl }), e)
    back code (inr (inr (inr h))) = elim h [ ]

region_none : (c : Check numbered) → Brings (a_region first) c → ⊥
region_none (op_list n o) h = let e = h.0 in cc
region_none (op_own o) h = cc
region_none (attr_list n a) h = h.0
region_none (attr_own a) h = h
region_none (type_list n key) h = by h.0.0 h.0.2
  where
    by : (d : Definer context_ids) → ◌≡◌ {A = Entity context_ids} (a_region first) (definer_entity context_ids d) → ⊥
    by (of_op o) e = cc
    by (of_block b) e = cc
region_none (type_own key) h = by h.0 h.2
  where
    by : (d : Definer context_ids) → ◌≡◌ {A = Entity context_ids} (a_region first) (definer_entity context_ids d) → ⊥
    by (of_op o) e = cc
    by (of_block b) e = cc

-- ## Entities as roots

-- the record of an operation: what it names, and whether its kind implements an interface
abbrev names_by : Option (OpRecord context_ids numbered) → List (Named context_ids)
names_by m = map (λ p. a_value p.value) (list_of (λ (r : OpRecord context_ids numbered). r.operands) m) ++ map (λ p. the_block p.block) (list_of (λ (r : OpRecord context_ids numbered). r.successors) m)

abbrev implements_by : ℕ → Option (OpRecord context_ids numbered) → Bool
implements_by interface m = option_map_or (λ (r : OpRecord context_ids numbered). module_kinds.op_impls r.kind interface) m false

of_each_op : (P : Option (OpRecord context_ids numbered) → Type 0) → P (checked.ops first) → P (checked.ops second) → P (checked.ops third) → P None → (o : ArenaIndex) → P (checked.ops o)
of_each_op P = any_three P (checked.ops first) (checked.ops second) (checked.ops third)

names_none : (b o : ArenaIndex) → In (the_block b) (names_of checked o) → ⊥
names_none b o h = let none : names_of checked o ≡ [] = of_each_op (λ m. names_by m ≡ []) refl refl refl refl o in let k : In {A = Named context_ids} (the_block b) [] = subst (In (the_block b)) none h in k

-- a block with a name is the first, which is linked
linked : (b : ArenaIndex) (name : Text) → IsBlockName checked b name → IsLinked checked (a_block b)
linked b name h = by (at_three (Some its_block) None None b)
  where
    by : ((b ≡ first) × (checked.blocks b ≡ Some its_block)) ⊎ ((b ≡ second) × (checked.blocks b ≡ None)) ⊎ ((b ≡ third) × (checked.blocks b ≡ None)) ⊎ (checked.blocks b ≡ None) → IsLinked checked (a_block b)
    by (inl p) = (a_region first, inl (ap a_block p.0))
    by (inr (inl p)) = absurd (let e : Some h.value ≡ None = sym h.found ∙ p.1 in cc)
    by (inr (inr (inl p))) = absurd (let e : Some h.value ≡ None = sym h.found ∙ p.1 in cc)
    by (inr (inr (inr p))) = absurd (let e : Some h.value ≡ None = sym h.found ∙ p in cc)

module _ (root : Entity context_ids) (these : List ℕ) where
  entity_quiet : Quiet (the_entity root) these
  entity_quiet spent (NoParent name) h = absurd (h.3 (linked h.0 name h.2))
  entity_quiet spent (MissingTerminator name) h = absurd (of_each_op (λ m. In h.3.1.0 (list_of (λ (r : OpRecord context_ids numbered). r.regions) m) → implements_by no_terminator_interface m ≡ false → ⊥) (λ i e. cc) (λ i e. elim i [ ]) (λ i e. elim i [ ]) (λ i e. elim i [ ]) h.3.0 h.3.1.2 h.3.2)
  entity_quiet spent (TerminatorNotLast name) h = absurd (of_each_op (λ m. implements_by is_terminator_interface m ≡ true → ⊥) (λ e. cc) (λ e. cc) (λ e. cc) (λ e. cc) h.0 h.3.0)
  entity_quiet spent (EntryHasPred name) h = absurd (names_none h.0 h.4.0 h.4.1)
  entity_quiet spent OperandNotUseOfDef h = absurd (names_none h.0 h.2.0 h.2.1)
  entity_quiet spent (Verifier code) h = (code, refl)

  -- each check of what is inside has its code in the list, and each code is that of such a check
  entity_codes : ((e : Entity context_ids) → Inside checked root e → (c : Check numbered) → Brings e c → In (code_of c) these)
      → ((code : ℕ) → In code these → (e : Entity context_ids) × (c : Check numbered) × Inside checked root e × Brings e c × (code ≡ code_of c)) → CodesAre (the_entity root) these
  entity_codes there back = codes_are (the_entity root) these
      (λ spent c h. let at = brought root spent c h in there at.0 at.1 c at.2)
      (λ spent code h. let at = back code h in (at.1, brings root spent at.0 at.1 at.2 at.3, at.4))
      entity_quiet

in_block : Inside checked (a_block first) (an_op second)
in_block = below {c = a_block first} (inl refl) itself

to_block : Inside checked (an_op first) (a_block first)
to_block = below {c = a_region first} (inl refl) (below {c = an_op first} (inl refl) itself)

-- an entity that brings the codes of another one is that one
of_this : (e d : Entity context_ids) (these : List ℕ) → Exactly d these → e ≡ d → (c : Check numbered) → Brings e c → In (code_of c) these
of_this e d these exactly q c h = exactly.there c (subst (λ x. Brings x c) q h)

block_root : CodesAre (the_entity (a_block first)) (outer ++ inner)
block_root = entity_codes (a_block first) (outer ++ inner) there back
  where
    down : (c x : Entity context_ids) → In c (a_block first ∷ an_op second ∷ []) → In x (children checked c) → In x (a_block first ∷ an_op second ∷ [])
    down c x (inl e) h = inr (let k : In x (an_op second ∷ []) = subst (λ y. In x (children checked y)) e h in k)
    down c x (inr (inl e)) h = absurd (let k : In {A = Entity context_ids} x [] = subst (λ y. In x (children checked y)) e h in k)
    down c x (inr (inr i)) h = elim i [ ]

    there : (e : Entity context_ids) → Inside checked (a_block first) e → (c : Check numbered) → Brings e c → In (code_of c) (outer ++ inner)
    there e i c h = elim (inside_list checked (a_block first) (a_block first ∷ an_op second ∷ []) (inl refl) down e i) [
      | inl q ↦ In-left (code_of c) outer inner (of_this e (a_block first) outer block_codes q c h)
      | inr (inl q) ↦ In-right (code_of c) outer inner (of_this e (an_op second) inner inner_codes q c h)
      | inr (inr k) ↦ absurd k
    ]

    back : (code : ℕ) → In code (outer ++ inner) → (e : Entity context_ids) × (c : Check numbered) × Inside checked (a_block first) e × Brings e c × (code ≡ code_of c)
    back code h = elim (In-append code outer inner h) [
      | inl k ↦ (let at = block_codes.back code k in (a_block first, at.0, itself, at.1, at.2))
      | inr k ↦ (let at = inner_codes.back code k in (an_op second, at.0, in_block, at.1, at.2))
    ]

abbrev of_module : List ℕ
of_module = 21 ∷ 1 ∷ 111 ∷ 101 ∷ []

-- what is inside the module
abbrev all : List (Entity context_ids)
all = an_op first ∷ a_region first ∷ a_block first ∷ an_op second ∷ []

module_root : CodesAre (the_entity (an_op first)) (of_module ++ (outer ++ inner))
module_root = entity_codes (an_op first) (of_module ++ (outer ++ inner)) there back
  where
    down : (c x : Entity context_ids) → In c all → In x (children checked c) → In x all
    down c x (inl e) h = elim (let k : In x (a_region first ∷ []) = subst (λ y. In x (children checked y)) e h in k) [ inl q ↦ inr (inl q) | inr k ↦ absurd k ]
    down c x (inr (inl e)) h = elim (let k : In x (a_block first ∷ []) = subst (λ y. In x (children checked y)) e h in k) [ inl q ↦ inr (inr (inl q)) | inr k ↦ absurd k ]
    down c x (inr (inr (inl e))) h = elim (let k : In x (an_op second ∷ []) = subst (λ y. In x (children checked y)) e h in k) [ inl q ↦ inr (inr (inr (inl q))) | inr k ↦ absurd k ]
    down c x (inr (inr (inr (inl e)))) h = absurd (let k : In {A = Entity context_ids} x [] = subst (λ y. In x (children checked y)) e h in k)
    down c x (inr (inr (inr (inr i)))) h = elim i [ ]

    there : (e : Entity context_ids) → Inside checked (an_op first) e → (c : Check numbered) → Brings e c → In (code_of c) (of_module ++ (outer ++ inner))
    there e i c h = elim (inside_list checked (an_op first) all (inl refl) down e i) [
      | inl q ↦ In-left (code_of c) of_module (outer ++ inner) (of_this e (an_op first) of_module module_codes q c h)
      | inr (inl q) ↦ absurd (region_none c (subst (λ x. Brings x c) q h))
      | inr (inr (inl q)) ↦ In-right (code_of c) of_module (outer ++ inner) (In-left (code_of c) outer inner (of_this e (a_block first) outer block_codes q c h))
      | inr (inr (inr (inl q))) ↦ In-right (code_of c) of_module (outer ++ inner) (In-right (code_of c) outer inner (of_this e (an_op second) inner inner_codes q c h))
      | inr (inr (inr (inr k))) ↦ absurd k
    ]

    back : (code : ℕ) → In code (of_module ++ (outer ++ inner)) → (e : Entity context_ids) × (c : Check numbered) × Inside checked (an_op first) e × Brings e c × (code ≡ code_of c)
    back code h = elim (In-append code of_module (outer ++ inner) h) [
      | inl k ↦ (let at = module_codes.back code k in (an_op first, at.0, itself, at.1, at.2))
      | inr k ↦ elim (In-append code outer inner k) [
        | inl i ↦ (let at = block_codes.back code i in (a_block first, at.0, to_block, at.1, at.2))
        | inr i ↦ (let at = inner_codes.back code i in (an_op second, at.0, below {c = a_block first} (inl refl) to_block, at.1, at.2))
      ]
    ]

-- an operation without regions
flat_root : (o : ArenaIndex) (these : List ℕ) → children checked (an_op o) ≡ [] → Exactly (an_op o) these → CodesAre (the_entity (an_op o)) these
flat_root o these none exactly = entity_codes (an_op o) these there (λ code h. let at = exactly.back code h in (an_op o, at.0, itself, at.1, at.2))
  where
    down : (c x : Entity context_ids) → In c (an_op o ∷ []) → In x (children checked c) → In x (an_op o ∷ [])
    down c x (inl e) h = absurd (let k : In {A = Entity context_ids} x [] = subst (In x) (ap (children checked) e ∙ none) h in k)
    down c x (inr i) h = elim i [ ]

    there : (e : Entity context_ids) → Inside checked (an_op o) e → (c : Check numbered) → Brings e c → In (code_of c) these
    there e i c h = elim (inside_list checked (an_op o) (an_op o ∷ []) (inl refl) down e i) [ inl q ↦ of_this e (an_op o) these exactly q c h | inr k ↦ absurd k ]

-- ## Other roots

-- where no block and no operation counts
quiet_root : (root : Root numbered) (these : List ℕ) → ((b : ArenaIndex) → CountsBlock module_kinds checked three_types root b → ⊥) → ((o : ArenaIndex) → CountsOp module_kinds checked three_types root o → ⊥) → Quiet root these
quiet_root root these no_block no_op spent (NoParent name) h = absurd (no_block h.0 h.1)
quiet_root root these no_block no_op spent (MissingTerminator name) h = absurd (no_block h.0 h.1)
quiet_root root these no_block no_op spent (TerminatorNotLast name) h = absurd (no_op h.0 h.2)
quiet_root root these no_block no_op spent (EntryHasPred name) h = absurd (no_block h.0 h.1)
quiet_root root these no_block no_op spent OperandNotUseOfDef h = absurd (no_block h.0 h.1)
quiet_root root these no_block no_op spent (Verifier code) h = (code, refl)

-- a code is that of the own check of the type, or of a number that is listed
abbrev TypeBack : List ℕ → ℕ → Type 0
TypeBack these key = (code : ℕ) → In code these → (code ≡ 200 + key) ⊎ ((n : ℕ) × In n ((own_codes 0).type_verifiers (key + 6)) × (code ≡ 200 + n * 10 + key))

type_one : TypeIn (211 ∷ 201 ∷ []) 1 × TypeBack (211 ∷ 201 ∷ []) 1
type_one = ((inr (inl refl), of_one (λ n. In (200 + n * 10 + 1) (211 ∷ 201 ∷ [])) 1 (inl refl)), back)
  where
    back : TypeBack (211 ∷ 201 ∷ []) 1
    back code (inl e) = inr (1, inl refl, e)
    back code (inr (inl e)) = inl e
    back code (inr (inr h)) = elim h [ ]

type_two : TypeIn (222 ∷ 202 ∷ []) 2 × TypeBack (222 ∷ 202 ∷ []) 2
type_two = ((inr (inl refl), of_one (λ n. In (200 + n * 10 + 2) (222 ∷ 202 ∷ [])) 2 (inl refl)), back)
  where
    back : TypeBack (222 ∷ 202 ∷ []) 2
    back code (inl e) = inr (2, inl refl, e)
    back code (inr (inl e)) = inl e
    back code (inr (inr h)) = elim h [ ]

type_three : TypeIn (203 ∷ []) 3 × TypeBack (203 ∷ []) 3
type_three = ((inl refl, λ n h. elim h [ ]), back)
  where
    back : TypeBack (203 ∷ []) 3
    back code (inl e) = inl e
    back code (inr h) = elim h [ ]

-- a root at which one type counts, and nothing else
module _ (root : Root numbered) (key : ℕ) (these : List ℕ) where
  type_root : ((b : ArenaIndex) → CountsBlock module_kinds checked three_types root b → ⊥) → ((o : ArenaIndex) → CountsOp module_kinds checked three_types root o → ⊥)
      → ((a : ℕ) → CountsAttribute module_kinds checked three_types root a → ⊥) → ((k : ℕ) → CountsTyped module_kinds checked three_types root k → ⊥)
      → ((k : ℕ) → CountsType module_kinds checked three_types root k → key ≡ k) → CountsType module_kinds checked three_types root key → TypeIn these key × TypeBack these key → CodesAre root these
  unfolding code_of
  type_root no_block no_op no_attribute no_typed one counts codes = codes_are root these there back (quiet_root root these no_block no_op)
    where
      there : (spent : ℕ) (c : Check numbered) → Runs root these spent c → In (code_of c) these
      there spent (op_list n o) h = absurd (no_op o h.0)
      there spent (op_own o) h = absurd (no_op o h)
      there spent (attr_list n a) h = absurd (no_attribute a h.0)
      there spent (attr_own a) h = absurd (no_attribute a h)
      there spent (type_list n k) h = (subst (TypeIn these) (one k h.0) codes.0).1 n h.1
      there spent (type_own k) (inl h) = (subst (TypeIn these) (one k h) codes.0).0
      there spent (type_own k) (inr h) = absurd (no_typed k h)

      back : (spent code : ℕ) → In code these → (c : Check numbered) × Runs root these spent c × (code ≡ code_of c)
      back spent code h = elim (codes.1 code h) [
        | inl e ↦ (type_own key, inl counts, e)
        | inr at ↦ (type_list at.0 key, (counts, at.1), at.2)
      ]

value_root : (v : Value context_ids) (key : ℕ) (these : List ℕ) → ((k : ℕ) → CountsType module_kinds checked three_types (the_value v) k → key ≡ k) → CountsType module_kinds checked three_types (the_value v) key → TypeIn these key × TypeBack these key → CodesAre (the_value v) these
value_root v key these = type_root (the_value v) key these (λ b h. h) (λ o h. h) (λ a h. h) (λ k h. h)

handle_root : (key : ℕ) (these : List ℕ) → TypeIn these key × TypeBack these key → CodesAre (the_type key) these
handle_root key these = type_root (the_type key) key these (λ b h. h) (λ o h. h) (λ a h. h) (λ k h. h) (λ k h. h) refl

-- the key of the type at this place
key_at : (ty m key : ℕ) (body : Unit {0}) → slice_get three_types ty ≡ Some (record { key = m; body = body }) → HasKey module_kinds checked three_types ty key → m ≡ key
key_at ty m key body e h = the_holds (slice_get three_types ty) (record { key = m; body = body }) (λ t. t.key ≡ key) e h

result_one : (k : ℕ) → CountsType module_kinds checked three_types (the_value (its_result 0)) k → 1 ≡ k
result_one k h = by h.0 h.1 h.2 h.3
  where
    by : (x : Definition context_ids numbered) → In x (typed 0 0 ∷ typed 1 1 ∷ []) → x.number ≡ 0 → HasKey module_kinds checked three_types x.ty k → 1 ≡ k
    by x (inl e) n q = key_at 0 1 k tt refl (subst (λ (y : Definition context_ids numbered). HasKey module_kinds checked three_types y.ty k) e q)
    by x (inr (inl e)) n q = absurd (let z : 1 ≡ 0 = sym (ap (λ (y : Definition context_ids numbered). y.number) e) ∙ n in omega (arith, z))
    by x (inr (inr i)) n q = elim i [ ]

result_two : (k : ℕ) → CountsType module_kinds checked three_types (the_value (its_result 1)) k → 2 ≡ k
result_two k h = by h.0 h.1 h.2 h.3
  where
    by : (x : Definition context_ids numbered) → In x (typed 0 0 ∷ typed 1 1 ∷ []) → x.number ≡ 1 → HasKey module_kinds checked three_types x.ty k → 2 ≡ k
    by x (inl e) n q = absurd (let z : 0 ≡ 1 = sym (ap (λ (y : Definition context_ids numbered). y.number) e) ∙ n in omega (arith, z))
    by x (inr (inl e)) n q = key_at 1 2 k tt refl (subst (λ (y : Definition context_ids numbered). HasKey module_kinds checked three_types y.ty k) e q)
    by x (inr (inr i)) n q = elim i [ ]

argument_three : (k : ℕ) → CountsType module_kinds checked three_types (the_value its_argument) k → 3 ≡ k
argument_three k h = by h.0 h.1 h.2 h.3
  where
    by : (x : Definition context_ids numbered) → In x (typed 2 2 ∷ []) → x.number ≡ 2 → HasKey module_kinds checked three_types x.ty k → 3 ≡ k
    by x (inl e) n q = key_at 2 3 k tt refl (subst (λ (y : Definition context_ids numbered). HasKey module_kinds checked three_types y.ty k) e q)
    by x (inr i) n q = elim i [ ]

typed_root : CodesAre (the_typed 1) (201 ∷ [])
unfolding code_of
typed_root = codes_are (the_typed 1) (201 ∷ []) there back (quiet_root (the_typed 1) (201 ∷ []) (λ b h. h) (λ o h. h))
  where
    there : (spent : ℕ) (c : Check numbered) → Runs (the_typed 1) (201 ∷ []) spent c → In (code_of c) (201 ∷ [])
    there spent (op_list n o) h = absurd h.0
    there spent (op_own o) h = absurd h
    there spent (attr_list n a) h = absurd h.0
    there spent (attr_own a) h = absurd h
    there spent (type_list n k) h = absurd h.0
    there spent (type_own k) (inl h) = absurd h
    there spent (type_own k) (inr h) = subst (λ m. In (200 + m) (201 ∷ [])) h (inl refl)

    back : (spent code : ℕ) → In code (201 ∷ []) → (c : Check numbered) × Runs (the_typed 1) (201 ∷ []) spent c × (code ≡ code_of c)
    back spent code (inl e) = (type_own 1, inr refl, e)
    back spent code (inr h) = elim h [ ]

attribute_root : CodesAre (the_attribute 2) (122 ∷ 102 ∷ [])
unfolding code_of
attribute_root = codes_are (the_attribute 2) (122 ∷ 102 ∷ []) there back (quiet_root (the_attribute 2) (122 ∷ 102 ∷ []) (λ b h. h) (λ o h. h))
  where
    two : AttrIn (122 ∷ 102 ∷ []) 2
    two = (inr (inl refl), of_one (λ n. In (100 + n * 10 + 2) (122 ∷ 102 ∷ [])) 2 (inl refl))

    there : (spent : ℕ) (c : Check numbered) → Runs (the_attribute 2) (122 ∷ 102 ∷ []) spent c → In (code_of c) (122 ∷ 102 ∷ [])
    there spent (op_list n o) h = absurd h.0
    there spent (op_own o) h = absurd h
    there spent (attr_list n a) h = (subst (AttrIn (122 ∷ 102 ∷ [])) h.0 two).1 n h.1
    there spent (attr_own a) h = (subst (AttrIn (122 ∷ 102 ∷ [])) h two).0
    there spent (type_list n k) h = absurd h.0
    there spent (type_own k) (inl h) = absurd h
    there spent (type_own k) (inr h) = absurd h

    back : (spent code : ℕ) → In code (122 ∷ 102 ∷ []) → (c : Check numbered) × Runs (the_attribute 2) (122 ∷ 102 ∷ []) spent c × (code ≡ code_of c)
    back spent code (inl e) = (attr_list 2 2, (refl, inl refl), e)
    back spent code (inr (inl e)) = (attr_own 2, refl, e)
    back spent code (inr (inr h)) = elim h [ ]

pub verifier_rows : VerifierRows
verifier_rows = record {
  whole = module_root;
  of_block = block_root;
  of_op = flat_root second inner refl inner_codes;
  of_third = flat_root third (13 ∷ 3 ∷ 103 ∷ []) refl third_codes;
  of_result = value_root (its_result 0) 1 (211 ∷ 201 ∷ []) result_one (typed 0 0, inl refl, refl, record { value = _; found = refl; holds = refl }) type_one;
  of_other_result = value_root (its_result 1) 2 (222 ∷ 202 ∷ []) result_two (typed 1 1, inr (inl refl), refl, record { value = _; found = refl; holds = refl }) type_two;
  of_argument = value_root its_argument 3 (203 ∷ []) argument_three (typed 2 2, inl refl, refl, record { value = _; found = refl; holds = refl }) type_three;
  of_type = handle_root 1 (211 ∷ 201 ∷ []) type_one;
  of_other_type = handle_root 2 (222 ∷ 202 ∷ []) type_two;
  of_typed = typed_root;
  of_attribute = attribute_root;
}
