-- How many operands operations have once those of one were changed.
use Rattle.std.proofs.Common.{◌≡◌, ◌≢◌, ◌⊎◌, ◌+◌, ◌-◌, ◌<◌, ◌≤◌, ℕ, inl, inr, Bool, refl, sym, ap, subst, ◌∙◌, arith, true, false, Option, Some, None, IsSome, List, [], ◌∷◌, ◌++◌, length, map, cond}
use Rattle.std.specs.Option.{option_map}
use Rattle.std.specs.List.{insert, remove}
use Rattle.std.proofs.lemmas.List.{length-append}
use Rattle.std.proofs.lemmas.List.Edits.{length-remove}
use Rattle.ir_model.specs.declared.ids.ArenaIndex.{ArenaIndex}
use Rattle.ir_model.specs.ContextIds.{context_ids, same_id}
use Rattle.ir_model.specs.Forest.{BlockRecord, Definer, Dialect, Forest, OpRecord, Operand, an_op, of_block}
use Rattle.ir_model.specs.Nesting.{IsLive, definitions_of, list_of, operands_of}
use Rattle.ir_model.specs.Changes.{on_block, on_op, on_operands, on_ops}
use Rattle.ir_model.proofs.TwoRuns.{id_tells}

operands_mapped : {W : Dialect} (g : List (Operand context_ids) → List (Operand context_ids)) (m : Option (OpRecord context_ids W)) → IsSome m
    → list_of (λ (r : OpRecord context_ids W). r.operands) (option_map (on_operands g) m) ≡ g (list_of (λ (r : OpRecord context_ids W). r.operands) m)
operands_mapped g None live = absurd (cc)
operands_mapped g (Some r) live = refl

has_record : {W : Dialect} (m : Option (OpRecord context_ids W)) → 0 < length (list_of (λ (r : OpRecord context_ids W). r.operands) m) → IsSome m
has_record None some = absurd (omega arith)
has_record (Some r) some = refl

module _ {W : Dialect} (f : Forest context_ids W) where
  -- what has an operand is live
  pub live_user : (o : ArenaIndex) → 0 < length (operands_of f o) → IsLive f (an_op o)
  live_user o some = has_record (f.ops o) some

module _ {W : Dialect} (f g : Forest context_ids W) (o : ArenaIndex) (change : List (Operand context_ids) → List (Operand context_ids)) (is : g ≡ on_op f o (on_operands change)) where
  -- the operands of the operation are changed
  pub changed : IsLive f (an_op o) → operands_of g o ≡ change (operands_of f o)
  changed live =
      let e : same_id o o ≡ true = (id_tells o o).1 refl in
      let here : (on_op f o (on_operands change)).ops o ≡ option_map (on_operands change) (f.ops o) = rw e in
      ap (λ (h : Forest context_ids W). operands_of h o) is ∙ ap (list_of (λ (r : OpRecord context_ids W). r.operands)) here ∙ operands_mapped change (f.ops o) live

  others : (p : ArenaIndex) → p ≢ o → operands_of g p ≡ operands_of f p
  others p differ = ap (λ (h : Forest context_ids W). operands_of h p) is ∙ ap (list_of (λ (r : OpRecord context_ids W). r.operands)) (by (same_id p o) refl)
    where
      by : (b : Bool) → same_id p o ≡ b → cond b (option_map (on_operands change) (f.ops p)) (f.ops p) ≡ f.ops p
      by true e = absurd (differ ((id_tells p o).0 e))
      by false e = refl

  -- what had an operand has one still
  pub still_users : IsLive f (an_op o) → ((ps : List (Operand context_ids)) → 0 < length ps → 0 < length (change ps)) → (p : ArenaIndex) → 0 < length (operands_of f p) → 0 < length (operands_of g p)
  still_users live keeps p some = by (same_id p o) refl
    where
      by : (b : Bool) → same_id p o ≡ b → 0 < length (operands_of g p)
      by true e = subst (λ z. 0 < length (operands_of g z)) (sym ((id_tells p o).0 e)) (subst (λ ps. 0 < length ps) (sym (changed live)) (keeps (operands_of f o) (subst (λ z. 0 < length (operands_of f z)) ((id_tells p o).0 e) some)))
      by false e = subst (λ ps. 0 < length ps) (sym (others p (λ k. let t : same_id p o ≡ true = (id_tells p o).1 k in cc))) some

-- one more, behind the others
pub pushed_length : {A : Type 0} (x : A) (ps : List A) → length (ps ++ x ∷ []) ≡ length ps + 1
pushed_length x ps = length-append ps (x ∷ [])

-- one is replaced at the front
pub replaced_some : {A : Type 0} (x : A) (ps : List A) → 0 < length (insert (remove ps 0) 0 x)
replaced_some x ps = grind arith

-- one less
pub removed_length : {A : Type 0} (at : ℕ) (ps : List A) → at < length ps → length (remove ps at) + 1 ≡ length ps
removed_length at ps within = length-remove ps at within

module _ {W : Dialect} (f g : Forest context_ids W) (o : ArenaIndex) (live : IsLive f (an_op o)) where
  -- an operand more
  pub pushed : (x : Operand context_ids) → g ≡ on_op f o (on_operands (λ ps. ps ++ x ∷ [])) → length (operands_of g o) ≡ length (operands_of f o) + 1
  pushed x is = ap length (changed f g o (λ ps. ps ++ x ∷ []) is live) ∙ pushed_length x (operands_of f o)

  -- an operand less
  pub removed : (at : ℕ) → g ≡ on_op f o (on_operands (λ ps. remove ps at)) → at < length (operands_of f o) → length (operands_of g o) + 1 ≡ length (operands_of f o)
  removed at is within = ap (λ ps. length ps + 1) (changed f g o (λ ps. remove ps at) is live) ∙ removed_length at (operands_of f o) within

  -- an operand in the place of the first
  pub replaced : (x : Operand context_ids) → g ≡ on_op f o (on_operands (λ ps. insert (remove ps 0) 0 x)) → (p : ArenaIndex) → 0 < length (operands_of f p) → 0 < length (operands_of g p)
  replaced x is p some = still_users f g o (λ ps. insert (remove ps 0) 0 x) is live (λ ps h. replaced_some x ps) p some

-- the arguments of a block are the same where lists of operations are edited
arguments_mapped : {W : Dialect} (g : List ArenaIndex → List ArenaIndex) (m : Option (BlockRecord context_ids W))
    → list_of (λ (r : BlockRecord context_ids W). r.arguments) (option_map (on_ops g) m) ≡ list_of (λ (r : BlockRecord context_ids W). r.arguments) m
arguments_mapped g None = refl
arguments_mapped g (Some r) = refl

pub same_arguments : {W : Dialect} (f g : Forest context_ids W) (b : ArenaIndex) (change : List ArenaIndex → List ArenaIndex) → g ≡ on_block f b (on_ops change) → (c : ArenaIndex) → definitions_of g (of_block c) ≡ definitions_of f (of_block c)
same_arguments {W} f g b change is c = ap (λ (h : Forest context_ids W). definitions_of h (of_block c)) is ∙ by (same_id c b)
  where
    by : (t : Bool) → list_of (λ (r : BlockRecord context_ids W). r.arguments) (cond t (option_map (on_ops change) (f.blocks c)) (f.blocks c)) ≡ list_of (λ (r : BlockRecord context_ids W). r.arguments) (f.blocks c)
    by true = arguments_mapped change (f.blocks c)
    by false = refl
