-- The laws of single edits and of two in turn.
use mathlib.Core.Path.{◌≡◌, refl, sym, ap, ◌∙◌, subst}
use Rattle.std.proofs.Common.{Bool, true, false, cond, Option, Some, None, List, [], ◌∷◌, map, length, slice_get}
use Rattle.std.specs.Option.{option_map}
use Rattle.ir_model.specs.declared.ids.ArenaIndex.{ArenaIndex}
use Rattle.ir_model.specs.ContextIds.{context_ids, same_id}
use Rattle.ir_model.specs.Forest.{Dialect, Behaviour, Forest, Value, Operand, Successor, OpRecord, a_value, the_block, same_value}
use Rattle.ir_model.specs.Nesting.{WellFormed}
use Rattle.ir_model.specs.Changes.{without, put_after, in_blocks, in_regions, on_block, on_region, on_ops, on_operands, on_successors, redirect, retarget, redirected, retargeted}
use Rattle.ir_model.specs.Edits.{State, over}
use Rattle.ir_model.specs.DefinitionLaws.{TakesUses}
use Rattle.ir_model.specs.EditLaws.{EditsGoBack, ReplaceTakesUses, RetargetTakesUses}
use Rattle.ir_model.proofs.Found.{holds_of}
use Rattle.ir_model.proofs.TwoRuns.{lawful, id_tells}
use Rattle.ir_model.proofs.Relinks.{op_after, op_front, block_after, block_front}
use Rattle.ir_model.proofs.Redirected.{value_tells, value_none, value_all, block_none, block_all}

module _ {W : Dialect} (B : Behaviour W) (s : State context_ids W) (w : WellFormed s.forest (length s.store)) where
  pub edits_go_back : EditsGoBack B s
  edits_go_back = record {
    op_after = λ n m new other t u at c d.
        let o = at.value in let mark = at.holds.value in
        let p : t ≡ over s (in_blocks s.forest (without same_id o)) = holds_of _ o at.found c in
        let tables = ap (λ (x : State context_ids W). x.tables.ops) p in
        let q : u ≡ over t (in_blocks t.forest (put_after same_id o mark)) = holds_of _ mark (ap (λ os. slice_get os m) tables ∙ at.holds.found) (holds_of _ o (ap (λ os. slice_get os n) tables ∙ at.found) d) in
        q ∙ (λ i. over (p i) (in_blocks ((p i).forest) (put_after same_id o mark))) ∙ ap (over s) (op_after lawful s.forest (length s.store) w o mark at.holds.holds);
    op_front = λ n m new other t u at c d.
        let o = at.value in let b = at.holds.value in
        let p : t ≡ over s (in_blocks s.forest (without same_id o)) = holds_of _ o at.found c in
        let q : u ≡ over t (on_block t.forest b (on_ops (λ os. o ∷ os))) = holds_of _ b (ap (λ (x : State context_ids W). slice_get x.tables.blocks m) p ∙ at.holds.found) (holds_of _ o (ap (λ (x : State context_ids W). slice_get x.tables.ops n) p ∙ at.found) d) in
        q ∙ (λ i. over (p i) (on_block ((p i).forest) b (on_ops (λ os. o ∷ os)))) ∙ ap (over s) (op_front lawful s.forest (length s.store) w o b at.holds.holds);
    block_after = λ n m new other t u at c d.
        let b = at.value in let mark = at.holds.value in
        let p : t ≡ over s (in_regions s.forest (without same_id b)) = holds_of _ b at.found c in
        let q : u ≡ over t (in_regions t.forest (put_after same_id b mark)) = holds_of _ mark (ap (λ (x : State context_ids W). slice_get x.tables.blocks m) p ∙ at.holds.found) (holds_of _ b (ap (λ (x : State context_ids W). slice_get x.tables.blocks n) p ∙ at.found) d) in
        q ∙ (λ i. over (p i) (in_regions ((p i).forest) (put_after same_id b mark))) ∙ ap (over s) (block_after lawful s.forest (length s.store) w b mark at.holds.holds);
    block_front = λ n m new other t u at c d.
        let b = at.value in let g = at.holds.value in
        let p : t ≡ over s (in_regions s.forest (without same_id b)) = holds_of _ b at.found c in
        let q : u ≡ over t (on_region t.forest g (λ bs. b ∷ bs)) = holds_of _ g (ap (λ (x : State context_ids W). slice_get x.tables.regions m) p ∙ at.holds.found) (holds_of _ b (ap (λ (x : State context_ids W). slice_get x.tables.blocks n) p ∙ at.found) d) in
        q ∙ (λ i. over (p i) (on_region ((p i).forest) g (λ bs. b ∷ bs))) ∙ ap (over s) (block_front lawful s.forest (length s.store) w b g at.holds.holds);
  }

  -- what is replaced by itself stays
  redirected_itself : (v : Value context_ids) (ps : List (Operand context_ids)) → map (redirected v v) ps ≡ ps
  redirected_itself v [] = refl
  redirected_itself v (p ∷ ps) = λ i. by (same_value context_ids p.value v) refl i ∷ redirected_itself v ps i
    where
      by : (b : Bool) → same_value context_ids p.value v ≡ b → ◌≡◌ {A = Operand context_ids} (cond b (record p { value = v }) p) p
      by true e = λ i. record p { value = sym ((value_tells lawful p.value v).0 e) i }
      by false e = refl

  retargeted_itself : (b : ArenaIndex) (ps : List (Successor context_ids)) → map (retargeted b b) ps ≡ ps
  retargeted_itself b [] = refl
  retargeted_itself b (p ∷ ps) = λ i. by (same_id p.block b) refl i ∷ retargeted_itself b ps i
    where
      by : (t : Bool) → same_id p.block b ≡ t → ◌≡◌ {A = Successor context_ids} (cond t (record p { block = b }) p) p
      by true e = λ i. record p { block = sym ((id_tells p.block b).0 e) i }
      by false e = refl

  redirects_nothing : (f : Forest context_ids W) (v : Value context_ids) → redirect f v v ≡ f
  redirects_nothing f v = λ i. record f { ops = λ o. by (f.ops o) i }
    where
      by : (m : Option (OpRecord context_ids W)) → option_map (on_operands (map (redirected v v))) m ≡ m
      by None = refl
      by (Some r) = λ i. Some (record r { operands = redirected_itself v r.operands i })

  retargets_nothing : (f : Forest context_ids W) (b : ArenaIndex) → retarget f b b ≡ f
  retargets_nothing f b = λ i. record f { ops = λ o. by (f.ops o) i }
    where
      by : (m : Option (OpRecord context_ids W)) → option_map (on_successors (map (retargeted b b))) m ≡ m
      by None = refl
      by (Some r) = λ i. Some (record r { successors = retargeted_itself b r.successors i })

  pub replace_takes_uses : ReplaceTakesUses B s
  replace_takes_uses = record {
    other = λ n m old new made t e g differ c.
        let p : t ≡ over s (redirect s.forest old new) = holds_of _ new g (holds_of _ old e c) in
        subst (λ f. TakesUses s.forest f (a_value old) (a_value new)) (sym (ap (λ (x : State context_ids W). x.forest) p))
        (record { none = value_none lawful s.forest (length s.store) w old new differ; all = value_all lawful s.forest (length s.store) w old new differ });
    itself = λ n m v made t e g c.
        let p : t ≡ over s (redirect s.forest v v) = holds_of _ v g (holds_of _ v e c) in
        p ∙ ap (over s) (redirects_nothing s.forest v);
  }

  pub retarget_takes_uses : RetargetTakesUses B s
  retarget_takes_uses = record {
    other = λ n m old new made t e g differ c.
        let p : t ≡ over s (retarget s.forest old new) = holds_of _ new g (holds_of _ old e c) in
        subst (λ f. TakesUses s.forest f (the_block old) (the_block new)) (sym (ap (λ (x : State context_ids W). x.forest) p))
        (record { none = block_none lawful s.forest (length s.store) w old new differ; all = block_all lawful s.forest (length s.store) w old new differ });
    itself = λ n m b made t e g c.
        let p : t ≡ over s (retarget s.forest b b) = holds_of _ b g (holds_of _ b e c) in
        p ∙ ap (over s) (retargets_nothing s.forest b);
  }
