-- A walk through a block that merges alike operations, or keeps them in a table.
use mathlib.Core.Path.{◌≡◌, refl, sym, ap, ◌∙◌, subst}
use Rattle.std.proofs.Common.{ℕ, zero, suc, ◌+◌, ◌<◌, ◌≤◌, ◌^◌, ◌⊎◌, inl, inr, Bool, true, false, cond, Option, Some, None, List, [], ◌∷◌, ◌++◌, length, map, take, is_some, arith}
use Rattle.std.proofs.lemmas.List.{length-append}
use Rattle.std.specs.Option.{option_map}
use Rattle.ir_model.specs.declared.ids.ArenaIndex.{ArenaIndex}
use Rattle.ir_model.specs.ContextIds.{context_ids, same_id}
use Rattle.ir_model.specs.Ids.{Distinct}
use Rattle.ir_model.specs.Forest.{Dialect, Behaviour, Forest, Entity, an_op, a_block}
use Rattle.ir_model.specs.Nesting.{In, IsLive, Nested, WellFormed, ops_of, children}
use Rattle.ir_model.specs.Parent.{Adjacent, ComesAfter, IsNext, first_of}
use Rattle.ir_model.proofs.Keeps.{Distinct-unmap}
use Rattle.ir_model.proofs.Loops.{Lawful}
use Rattle.ir_model.proofs.Nests.{In-append, In-left, In-right, In-map, not_in-Absent}
use Rattle.ir_model.proofs.Relinks.{Adjacent-first}
use Rattle.ir_model.proofs.Searches.{searches_agree}
use Rattle.ir_model.proofs.TwoRuns.{lawful}
use Rattle.ir_model_passes.specs.Meaning.{SameAttributes}
use Rattle.ir_model_passes.specs.Merging.{StandsBefore, redirect_results, Alike, MergesSome, Merges, MergesBrokenOff}
use Rattle.ir_model_passes.specs.InOrder.{InOrder}
use Rattle.ir_model_passes.specs.FrontWalk.{WalkLeads}
use Rattle.ir_model_passes.specs.PassLaws.{MergesAreCounted, WalkSteps}
use Rattle.ir_run_passes.specs.declared.kept_ops.KeptOp.{KeptOp}
use Rattle.ir_run_passes.specs.declared.kept_ops.KeptOps.{KeptOps}
use Rattle.ir_run_passes.specs.KeptOps.{HasHash, IsLast, IsIndexed, IsPlainOp, kept_in}
use Rattle.ir_run_passes.specs.MergeSteps.{MergesInto, Passes, FindsKept, Steps, ReplacesSome, BreaksOff}
use Rattle.ir_run_passes.proofs.Chains.{rehashed}
use Rattle.ir_run_passes.proofs.MetSoFar.{behind_it, parts_apart}

-- ## How much of a list is left from a place on

abbrev from_on : ArenaIndex → List ArenaIndex → ℕ
from_on o [] = zero
from_on o (x ∷ xs) = cond (same_id x o) (suc (length xs)) (from_on o xs)

abbrev pub left_from : Option ArenaIndex → List ArenaIndex → ℕ
left_from None xs = zero
left_from (Some o) xs = from_on o xs

left_at : (o : ArenaIndex) (xs rest : List ArenaIndex) → (In o xs → ⊥) → from_on o (xs ++ o ∷ rest) ≡ suc (length rest)
left_at o [] rest apart = ap (λ b. cond b (suc (length rest)) (from_on o rest)) ((lawful.ops o o).1 refl)
left_at o (x ∷ xs) rest apart = by (same_id x o) refl (left_at o xs rest (λ h. apart (inr h)))
  where
    by : (b : Bool) → same_id x o ≡ b → from_on o (xs ++ o ∷ rest) ≡ suc (length rest) → cond b (suc (length (xs ++ o ∷ rest))) (from_on o (xs ++ o ∷ rest)) ≡ suc (length rest)
    by true e more = absurd (apart (inl (sym ((lawful.ops x o).0 e))))
    by false e more = more

left_is : (place : Option ArenaIndex) (xs rest : List ArenaIndex) → Distinct (xs ++ rest) → place ≡ first_of rest → left_from place (xs ++ rest) ≡ length rest
left_is place xs [] d e = ap (λ p. left_from p (xs ++ [])) e
left_is place xs (o ∷ rest) d e = ap (λ p. left_from p (xs ++ o ∷ rest)) e ∙ left_at o xs rest (λ h. parts_apart o xs (o ∷ rest) d h (inl refl))

-- ## What comes next

adjacent_before : {A : Type 0} (x y : A) (xs : List A) → Adjacent x y xs → StandsBefore x y xs
adjacent_before {A = A} x y xs h = subst (StandsBefore x y) (sym h.2) (by h.0)
  where
    by : (before : List A) → StandsBefore x y (before ++ x ∷ y ∷ h.1)
    by [] = inl (refl, inl refl)
    by (z ∷ zs) = inr (by zs)

map_parts : {A C : Type 0} (g : A → C) (xs ys : List A) → map g (xs ++ ys) ≡ map g xs ++ map g ys
map_parts g [] ys = refl
map_parts g (x ∷ xs) ys = ap (λ zs. g x ∷ zs) (map_parts g xs ys)

abbrev E : Type 0
E = Entity context_ids

-- the operation, as an entity
abbrev op_at : ArenaIndex → E
op_at o = an_op o

same_op_at : (o p : ArenaIndex) → op_at o ≡ op_at p → o ≡ p
same_op_at o p e = cc

same_some : {A : Type 0} (x y : A) → Some x ≡ Some y → x ≡ y
same_some x y e = cc

of_ops : {P : Type 0} (index : P → ArenaIndex) (m : Option P) (t : Option ArenaIndex) → option_map (λ p. op_at (index p)) m ≡ option_map op_at t → option_map index m ≡ t
of_ops index None None e = refl
of_ops index None (Some o) e = absurd cc
of_ops index (Some p) None e = absurd cc
of_ops index (Some p) (Some o) e = ap Some (same_op_at (index p) o (same_some (op_at (index p)) (op_at o) e))

module _ {W : Dialect} (g : Forest context_ids W) (keys : ℕ) (w : WellFormed g keys) (b : ArenaIndex) (visited rest : List ArenaIndex) (o : ArenaIndex) (lists : ops_of g b ≡ visited ++ o ∷ rest) where
  listed : children g (a_block b) ≡ map op_at visited ++ op_at o ∷ map op_at rest
  listed = ap (map op_at) lists ∙ map_parts op_at visited (o ∷ rest)

  once_here : Distinct (map op_at visited ++ op_at o ∷ map op_at rest)
  once_here = subst Distinct listed (w.nested.once (a_block b))

  none_after : rest ≡ [] → (y : E) → ComesAfter g (op_at o) y → ⊥
  none_after e y after =
      let inside : In (op_at o) (children g (a_block b)) = subst (In (op_at o)) (sym listed) (In-right (op_at o) (map op_at visited) (op_at o ∷ map op_at rest) (inl refl)) in
      let home : after.0 ≡ a_block b = w.nested.one_list (op_at o) after.0 (a_block b) (Adjacent-first (op_at o) y (children g after.0) after.1) inside in
      let here : Adjacent (op_at o) y (children g (a_block b)) = subst (λ p. Adjacent (op_at o) y (children g p)) home after.1 in
      let later : In y (map op_at rest) = behind_it (op_at o) y (map op_at visited) (map op_at rest) once_here (subst (StandsBefore (op_at o) y) listed (adjacent_before (op_at o) y (children g (a_block b)) here)) in
      subst (λ (ys : List ArenaIndex). In y (map op_at ys)) e later

  is_next : (xs : List ArenaIndex) → rest ≡ xs → IsNext g (op_at o) (option_map op_at (first_of xs))
  is_next [] e = none_after e
  is_next (x ∷ xs) e = (a_block b, (map op_at visited, map op_at xs, listed ∙ ap (λ (ys : List ArenaIndex). map op_at visited ++ op_at o ∷ map op_at ys) e))

  -- the operation that comes next is the first of the rest
  pub next_first : {P : Type 0} (index : P → ArenaIndex) (m : Option P) → IsNext g (op_at o) (option_map (λ p. op_at (index p)) m) → option_map index m ≡ first_of rest
  next_first index m told = of_ops index m (first_of rest) ((searches_agree g keys w).next (op_at o) (option_map (λ p. op_at (index p)) m) (option_map op_at (first_of rest)) told (is_next rest refl))

-- ## The walk

module _ {W : Dialect} (B : Behaviour W) (same : SameAttributes W) (hash : Forest context_ids W → ArenaIndex → ℕ) (b : ArenaIndex) (start : Forest context_ids W) where
  -- so many were merged; the operations that were visited were kept, the plain ones of them in the table, and the next one is the first of the rest
  pub record KeptWalk (g : Forest context_ids W) (kept : KeptOps) (place : Option ArenaIndex) (count : ℕ) : Type 0 where
    pub visited : List ArenaIndex
    pub rest : List ArenaIndex
    pub walk : WalkLeads B same b start visited rest g count
    pub next : place ≡ first_of rest
    pub were_visited : (k : ArenaIndex) → In k (kept_in kept) → In k visited
    pub all_plain : (k : ArenaIndex) → In k visited → IsPlainOp B g k → In k (kept_in kept)
    pub plain : (k : ArenaIndex) → In k (kept_in kept) → IsPlainOp B g k
    pub indexed : IsIndexed (hash g) kept

  module _ (laws : WalkSteps W) (counted : MergesAreCounted W) where
    pub walk_begins : (kept : KeptOps) (place : Option ArenaIndex) → InOrder start b → kept_in kept ≡ [] → ((h : ArenaIndex → ℕ) → IsIndexed h kept) → place ≡ first_of (ops_of start b) → KeptWalk start kept place zero
    walk_begins kept place order none indexed first = record {
      visited = [];
      rest = ops_of start b;
      walk = laws.begins B same start b order;
      next = first;
      were_visited = λ k h. subst (λ xs. In k xs) none h;
      all_plain = λ k h. absurd h;
      plain = λ k h. absurd (subst (λ xs. In k xs) none h);
      indexed = indexed (hash start);
    }

    module _ (keys : ℕ) (started : WellFormed start keys) (g : Forest context_ids W) (kept : KeptOps) (count : ℕ) where
      pub walk_formed : (place : Option ArenaIndex) → KeptWalk g kept place count → WellFormed g keys
      walk_formed place w = laws.formed B same start g keys count b w.visited w.rest started w.walk

      pub walk_ends : KeptWalk g kept None count → Merges B same b start g count
      walk_ends w = laws.ends B same start g keys count b w.visited (subst (λ xs. WalkLeads B same b start w.visited xs g count) (none_first w.rest w.next) w.walk)
        where
          none_first : (xs : List ArenaIndex) → None ≡ first_of xs → xs ≡ []
          none_first [] e = refl
          none_first (x ∷ xs) e = absurd cc

      -- as many operations are left in the block as the walk has to visit
      pub walk_left : (place : Option ArenaIndex) (w : KeptWalk g kept place count) → left_from place (ops_of g b) ≡ length w.rest
      walk_left place w =
          let d : Distinct (w.visited ++ w.rest) = subst Distinct w.walk.lists (Distinct-unmap an_op (ops_of g b) ((walk_formed place w).nested.once (a_block b))) in
          ap (left_from place) w.walk.lists ∙ left_is place w.visited w.rest d w.next

      module _ (o : ArenaIndex) (w : KeptWalk g kept (Some o) count) where
        abbrev tail_of : List ArenaIndex → List ArenaIndex
        tail_of [] = []
        tail_of (x ∷ xs) = xs

        abbrev behind : List ArenaIndex
        behind = tail_of w.rest

        here : w.rest ≡ o ∷ behind
        here = by w.rest w.next
          where
            by : (xs : List ArenaIndex) → Some o ≡ first_of xs → xs ≡ o ∷ tail_of xs
            by [] e = absurd cc
            by (x ∷ xs) e = let s : x ≡ o = cc in ap (λ y. y ∷ xs) s

        leads : WalkLeads B same b start w.visited (o ∷ behind) g count
        leads = subst (λ xs. WalkLeads B same b start w.visited xs g count) here w.walk

        formed : WellFormed g keys
        formed = walk_formed (Some o) w

        once : Distinct (w.visited ++ o ∷ behind)
        once = subst Distinct leads.lists (Distinct-unmap an_op (ops_of g b) (formed.nested.once (a_block b)))

        pub walk_here : In o (ops_of g b)
        walk_here = subst (In o) (sym leads.lists) (In-right o w.visited (o ∷ behind) (inl refl))

        pub walk_live : IsLive g (an_op o)
        walk_live = formed.nested.live (an_op o) (a_block b) (In-map an_op o (ops_of g b) walk_here)

        pub walk_apart : In o (kept_in kept) → ⊥
        walk_apart h = parts_apart o w.visited (o ∷ behind) once (w.were_visited o h) (inl refl)

        pub walk_finds : FindsKept B g kept (hash g)
        walk_finds = record { plain = w.plain; indexed = w.indexed }

        length_here : length w.rest ≡ suc (length behind)
        length_here = ap length here

        module _ {P : Type 0} (index : P → ArenaIndex) (next : Option P) (told : IsNext g (an_op o) (option_map (λ p. an_op (index p)) next)) where
          follows : option_map index next ≡ first_of behind
          follows = next_first g keys formed b w.visited behind o leads.lists index next told

          pub walk_passes : (now : KeptOps) → Passes B same g kept o now → IsIndexed (hash g) now → (v : KeptWalk g now (option_map index next) count) × (length v.rest < length w.rest)
          walk_passes now passes indexed = (
            record {
              visited = w.visited ++ o ∷ [];
              rest = behind;
              walk = laws.keeps B same start g keys count b o w.visited behind leads none;
              next = follows;
              were_visited = λ k h. elim passes.keeps [
                | inl e ↦ elim (In-append k (kept_in kept) (o ∷ []) (subst (λ xs. In k xs) e.0 h)) [
                  | inl i ↦ In-left k w.visited (o ∷ []) (w.were_visited k i)
                  | inr i ↦ In-right k w.visited (o ∷ []) i
                ]
                | inr e ↦ In-left k w.visited (o ∷ []) (w.were_visited k (subst (λ xs. In k xs) e.0 h))
              ];
              all_plain = λ k h plain. elim passes.keeps [
                | inl e ↦ subst (λ xs. In k xs) (sym e.0) (elim (In-append k w.visited (o ∷ []) h) [
                  | inl i ↦ In-left k (kept_in kept) (o ∷ []) (w.all_plain k i plain)
                  | inr i ↦ In-right k (kept_in kept) (o ∷ []) i
                ])
                | inr e ↦ subst (λ xs. In k xs) (sym e.0) (elim (In-append k w.visited (o ∷ []) h) [
                  | inl i ↦ w.all_plain k i plain
                  | inr i ↦ elim i [ inl s ↦ absurd (e.1 (subst (IsPlainOp B g) s plain)) | inr q ↦ absurd q ]
                ])
              ];
              plain = λ k h. elim passes.keeps [
                | inl e ↦ elim (In-append k (kept_in kept) (o ∷ []) (subst (λ xs. In k xs) e.0 h)) [
                  | inl i ↦ w.plain k i
                  | inr i ↦ elim i [ inl s ↦ subst (IsPlainOp B g) (sym s) e.1 | inr q ↦ absurd q ]
                ]
                | inr e ↦ w.plain k (subst (λ xs. In k xs) e.0 h)
              ];
              indexed = indexed;
            },
            let n = length_here in omega arith,
          )
            where
              none : (k : ArenaIndex) → In k w.visited → Alike B same g k o → ⊥
              none k h alike = passes.none_alike k (w.all_plain k h (record { of = alike.one; found = alike.one_is; plain = alike.one_plain })) alike

          module _ (h : Forest context_ids W) (into : MergesInto B same g kept o h) (hashed : (k : ArenaIndex) → h.ops k ≡ g.ops k → hash h k ≡ hash g k) where
            merged : WalkLeads B same b start w.visited behind h (suc count) × ((k : ArenaIndex) → In k w.visited → h.ops k ≡ g.ops k)
            merged = laws.merges B same start g keys count b h into.earlier o w.visited behind started leads (w.were_visited into.earlier into.is_kept) into.alike into.removes

            plain_there : (k : ArenaIndex) → In k w.visited → IsPlainOp B g k → IsPlainOp B h k
            plain_there k i p = record { of = p.of; found = merged.1 k i ∙ p.found; plain = p.plain }

            plain_was : (k : ArenaIndex) → In k w.visited → IsPlainOp B h k → IsPlainOp B g k
            plain_was k i p = record { of = p.of; found = sym (merged.1 k i) ∙ p.found; plain = p.plain }

            pub walk_merges : (v : KeptWalk h kept (option_map index next) (suc count)) × (length v.rest < length w.rest)
            walk_merges = (
              record {
                visited = w.visited;
                rest = behind;
                walk = merged.0;
                next = follows;
                were_visited = w.were_visited;
                all_plain = λ k i p. w.all_plain k i (plain_was k i p);
                plain = λ k i. plain_there k (w.were_visited k i) (w.plain k i);
                indexed = rehashed (hash g) (hash h) kept (λ k i. hashed k (merged.1 k (w.were_visited k i))) w.indexed;
              },
              let n = length_here in omega arith,
            )

            -- fewer were merged than the block had
            pub walk_counts : suc count ≤ length (ops_of start b)
            walk_counts = let n = counted B same start h keys (suc count) b started merged.0.merges in omega arith

        pub walk_breaks : (h : Forest context_ids W) → BreaksOff B same g kept o h → MergesBrokenOff B same b start h
        walk_breaks h (inl e) = record { between = g; count = count; merges = w.walk.merges; broken_off = inl e }
        walk_breaks h (inr r) =
            subst (MergesBrokenOff B same b start) (sym r.replaces) (laws.breaks_off B same start g keys count b r.earlier o w.visited behind r.count leads (w.were_visited r.earlier r.is_kept) r.alike)

-- a step that leaves fewer operations to visit leaves fewer from the place on
module _ {W : Dialect} (B : Behaviour W) (same : SameAttributes W) (hash : Forest context_ids W → ArenaIndex → ℕ) (b : ArenaIndex) (start : Forest context_ids W) (laws : WalkSteps W) (counted : MergesAreCounted W) (keys : ℕ) (started : WellFormed start keys) where
  pub left_less : (g h : Forest context_ids W) (kept now : KeptOps) (m n : ℕ) (before after : Option ArenaIndex) (w : KeptWalk B same hash b start g kept before m) (v : KeptWalk B same hash b start h now after n)
      → length v.rest < length w.rest → left_from after (ops_of h b) < left_from before (ops_of g b)
  left_less g h kept now m n before after w v lt =
      let was = walk_left B same hash b start laws counted keys started g kept m before w in
      let is = walk_left B same hash b start laws counted keys started h now n after v in
      omega (arith, was, is, lt)
