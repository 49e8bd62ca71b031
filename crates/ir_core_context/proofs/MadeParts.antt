-- Definitions, operands and successors in order, as the definitions of an edit number them.
use Rattle.std.proofs.Common.{◌≡◌, ℕ, zero, suc, ◌+◌, ◌<◌, List, [], ◌∷◌, ◌++◌, length, map, take, drop, All, None, refl, sym, ap, subst, ◌∙◌, inl, inr, arith}
use Rattle.std.specs.List.{range_with_len, zip}
use Rattle.std.proofs.lemmas.List.{length-map}
use Rattle.ir_model.specs.declared.ids.ArenaIndex.{ArenaIndex}
use Rattle.ir_model.specs.ContextIds.{context_ids}
use Rattle.ir_model.specs.Forest.{Definition as PlainDefinition, Forest, Named, Operand, Successor, a_value, the_block}
use Rattle.ir_model.specs.Nesting.{In, IsLiveNamed}
use Rattle.ir_model.specs.Changes.{definition, operand, successor}
use Rattle.ir_base_dialects.specs.declared.type_handle.TypeHandle.{TypeHandle}
use Rattle.ir_core_records.specs.declared.record.BlockIndex.{BlockIndex}
use Rattle.ir_core_records.specs.declared.record.Definition.{Definition}
use Rattle.ir_core_records.specs.declared.record.ValueIndex.{ValueIndex}
use Rattle.ir_core_records.specs.Lists.{definitions_from}
use Rattle.ir_core_records.specs.Meaning.{closed, definition_of, operands_from, successors_from, value_of}
use Rattle.ir_model.proofs.Nests.{In-append}
use Rattle.ir_core_context.proofs.Numbers.{range-joined}

pub definitions-unused : (n : ℕ) (ts : List TypeHandle) → All (λ (r : Definition). r.uses ≡ []) (definitions_from n ts)
definitions-unused n [] k d within = absurd (omega arith)
definitions-unused n (t ∷ ts) zero d within = refl
definitions-unused n (t ∷ ts) (suc k) d within = definitions-unused (n + 1) ts k d (omega arith)

module _ {A K B S X L : Type 0} where
  pub definitions-numbered : (n : ℕ) (ts : List TypeHandle) → map (definition_of {A = A} {K = K} {B = B} {S = S} {X = X} {L = L}) (definitions_from n ts) ≡ map definition (zip (range_with_len n (length ts)) (map (λ t. t.place) ts))
  definitions-numbered n [] = refl
  definitions-numbered n (t ∷ ts) = ap (λ (xs : List (PlainDefinition context_ids (closed A K B S X L))). record { number = n; ty = t.place; name = None } ∷ xs) (definitions-numbered (n + 1) ts)

module _ (A K B S X L : Type 0) where
  pub definition-numbers : (n : ℕ) (ts : List TypeHandle) → map (λ (x : PlainDefinition context_ids (closed A K B S X L)). x.number) (map definition_of (definitions_from n ts)) ≡ range_with_len n (length ts)
  definition-numbers n [] = refl
  definition-numbers n (t ∷ ts) = ap (λ (xs : List ℕ). n ∷ xs) (definition-numbers (n + 1) ts)

  pub definition-types : (n : ℕ) (ts : List TypeHandle) → map (λ (x : PlainDefinition context_ids (closed A K B S X L)). x.ty) (map definition_of (definitions_from n ts)) ≡ map (λ t. t.place) ts
  definition-types n [] = refl
  definition-types n (t ∷ ts) = ap (λ (xs : List ℕ). t.place ∷ xs) (definition-types (n + 1) ts)

pub operands-numbered : (n : ℕ) (vs : List ValueIndex) → operands_from n vs ≡ map operand (zip (range_with_len n (length vs)) (map value_of vs))
operands-numbered n [] = refl
operands-numbered n (v ∷ vs) = ap (λ (xs : List (Operand context_ids)). record { use_number = n; value = value_of v } ∷ xs) (operands-numbered (n + 1) vs)

pub successors-numbered : (n : ℕ) (bs : List BlockIndex) → successors_from n bs ≡ map successor (zip (range_with_len n (length bs)) (map (λ b. b.index) bs))
successors-numbered n [] = refl
successors-numbered n (b ∷ bs) = ap (λ (xs : List (Successor context_ids)). record { use_number = n; block = b.index } ∷ xs) (successors-numbered (n + 1) bs)

pub operand-numbers : (n : ℕ) (vs : List ValueIndex) → map (λ (p : Operand context_ids). p.use_number) (operands_from n vs) ≡ range_with_len n (length vs)
operand-numbers n [] = refl
operand-numbers n (v ∷ vs) = ap (λ (xs : List ℕ). n ∷ xs) (operand-numbers (n + 1) vs)

successor-numbers : (n : ℕ) (bs : List BlockIndex) → map (λ (p : Successor context_ids). p.use_number) (successors_from n bs) ≡ range_with_len n (length bs)
successor-numbers n [] = refl
successor-numbers n (b ∷ bs) = ap (λ (xs : List ℕ). n ∷ xs) (successor-numbers (n + 1) bs)

-- operands are numbered first, then successors
pub place-numbers : (n : ℕ) (vs : List ValueIndex) (bs : List BlockIndex)
    → map (λ (p : Operand context_ids). p.use_number) (operands_from n vs) ++ map (λ (p : Successor context_ids). p.use_number) (successors_from (n + length vs) bs) ≡ range_with_len n (length vs + length bs)
place-numbers n vs bs =
    ap (λ xs. xs ++ map (λ (p : Successor context_ids). p.use_number) (successors_from (n + length vs) bs)) (operand-numbers n vs)
    ∙ ap (λ xs. range_with_len n (length vs) ++ xs) (successor-numbers (n + length vs) bs)
    ∙ range-joined n (length vs) (length bs)

pub take-range : (n a b : ℕ) → take a (range_with_len n (a + b)) ≡ range_with_len n a
take-range n zero b = refl
take-range n (suc a) b = let e : suc a + b ≡ suc (a + b) = omega arith in ap (λ k. take (suc a) (range_with_len n k)) e ∙ ap (λ (xs : List ℕ). n ∷ xs) (take-range (n + 1) a b)

pub drop-range : (n a b : ℕ) → drop a (range_with_len n (a + b)) ≡ range_with_len (n + a) b
drop-range n zero b = (let e : 0 + b ≡ b = omega arith in ap (λ k. drop 0 (range_with_len n k)) e) ∙ (let z : n ≡ n + 0 = omega arith in ap (λ m. range_with_len m b) z)
drop-range n (suc a) b =
    let e : suc a + b ≡ suc (a + b) = omega arith in
    let z : n + 1 + a ≡ n + suc a = omega arith in
    ap (λ k. drop (suc a) (range_with_len n k)) e ∙ drop-range (n + 1) a b ∙ ap (λ m. range_with_len m b) z

module _ {A K B S X L : Type 0} (f : Forest context_ids (closed A K B S X L)) where
  operand-names : (n : ℕ) (vs : List ValueIndex) → All (λ (v : ValueIndex). IsLiveNamed f (a_value (value_of v))) vs
      → (d : Named context_ids) → In d (map (λ (p : Operand context_ids). a_value p.value) (operands_from n vs)) → IsLiveNamed f d
  operand-names n [] live d h = absurd h
  operand-names n (v ∷ vs) live d (inl e) = subst (IsLiveNamed f) (sym e) (live 0 v (omega arith))
  operand-names n (v ∷ vs) live d (inr h) = operand-names (n + 1) vs (λ k x w. live (suc k) x (omega (arith, w))) d h

  successor-names : (n : ℕ) (bs : List BlockIndex) → All (λ (b : BlockIndex). IsLiveNamed f (the_block b.index)) bs
      → (d : Named context_ids) → In d (map (λ (p : Successor context_ids). the_block p.block) (successors_from n bs)) → IsLiveNamed f d
  successor-names n [] live d h = absurd h
  successor-names n (b ∷ bs) live d (inl e) = subst (IsLiveNamed f) (sym e) (live 0 b (omega arith))
  successor-names n (b ∷ bs) live d (inr h) = successor-names (n + 1) bs (λ k x w. live (suc k) x (omega (arith, w))) d h

  pub names-live : (n m : ℕ) (vs : List ValueIndex) (bs : List BlockIndex) → All (λ (v : ValueIndex). IsLiveNamed f (a_value (value_of v))) vs → All (λ (b : BlockIndex). IsLiveNamed f (the_block b.index)) bs
      → (d : Named context_ids) → In d (map (λ (p : Operand context_ids). a_value p.value) (operands_from n vs) ++ map (λ (p : Successor context_ids). the_block p.block) (successors_from m bs)) → IsLiveNamed f d
  names-live n m vs bs values blocks d h = elim (In-append d (map (λ (p : Operand context_ids). a_value p.value) (operands_from n vs)) (map (λ (p : Successor context_ids). the_block p.block) (successors_from m bs)) h) [
    | inl k ↦ operand-names n vs values d k
    | inr k ↦ successor-names m bs blocks d k
  ]

pub all-In : {U : Type 0} (P : ℕ → Type 0) (f : U → ℕ) (xs : List U) → All (λ x. P (f x)) xs → (t : ℕ) → In t (map f xs) → P t
all-In P f [] h t k = absurd k
all-In P f (x ∷ xs) h t (inl e) = subst P (sym e) (h 0 x (omega arith))
all-In P f (x ∷ xs) h t (inr k) = all-In P f xs (λ i y w. h (suc i) y (omega (arith, w))) t k
