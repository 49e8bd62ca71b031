-- A walk through a block from its front, step by step.
use mathlib.Core.Path.{◌≡◌, refl, sym, ap, ◌∙◌, subst}
use Rattle.std.proofs.Common.{ℕ, zero, suc, inl, inr, List, [], ◌∷◌, ◌++◌, take, append_assoc}
use Rattle.std.specs.List.{zip}
use Rattle.ir_model.specs.Ids.{Ids}
use Rattle.ir_model.specs.Forest.{Dialect, Behaviour, an_op, Forest}
use Rattle.ir_model.specs.Nesting.{In, ops_of, WellFormed}
use Rattle.ir_model.specs.Changes.{Removes}
use Rattle.ir_model.proofs.Loops.{Lawful}
use Rattle.ir_model_passes.specs.Meaning.{SameAttributes, Interpretation, Respects, KeepsMeaning}
use Rattle.ir_model_passes.specs.Merging.{StandsBefore, redirect_each, redirect_results, values_given, Alike, MergesOne, MergesPartly, MergesSome, none_merges, one_merges, Merges, MergesBrokenOff}
use Rattle.ir_model_passes.specs.InOrder.{InOrder}
use Rattle.ir_model_passes.specs.FrontWalk.{NoneAlikeAmong, WalkLeads}
use Rattle.ir_model_passes.proofs.Merged.{partly_formed, partly_keeps}
use Rattle.ir_model_passes.proofs.Merges.{some_formed, some_keep_meaning}
use Rattle.ir_model_passes.proofs.Preorder.{meaning_then}
use Rattle.ir_model_passes.proofs.FrontToBack.{append_none, before_here, before_or_last, leaves, list_now, kept_same, still_none}

module _ {N : Ids} {W : Dialect} (B : Behaviour W) (same : SameAttributes W) (b : N.Block) where
  pub walk_begins : (f : Forest N W) → InOrder f b → WalkLeads B same b f [] (ops_of f b) f zero
  walk_begins f order = record { merges = none_merges; in_order = order; lists = refl; none_alike = λ o p before alike. before }

  module _ (f g : Forest N W) (kept rest : List N.Op) (count : ℕ) where
    pub walk_keeps : (o : N.Op) → WalkLeads B same b f kept (o ∷ rest) g count → ((k : N.Op) → In k kept → Alike B same g k o → ⊥) → WalkLeads B same b f (kept ++ o ∷ []) rest g count
    walk_keeps o walk apart = record {
      merges = walk.merges;
      in_order = walk.in_order;
      lists = walk.lists ∙ sym (append_assoc kept (o ∷ []) rest);
      none_alike = λ x y before alike. elim (before_or_last x y o kept before) [
        | inl h ↦ walk.none_alike x y h alike
        | inr h ↦ apart x h.0 (subst (λ z. Alike B same g x z) h.1 alike)
      ];
    }

    pub walk_breaks_off : (earlier o : N.Op) (some : ℕ) → WalkLeads B same b f kept (o ∷ rest) g count → In earlier kept → Alike B same g earlier o
        → MergesBrokenOff B same b f (redirect_each g (take some (zip (values_given g o) (values_given g earlier))))
    walk_breaks_off earlier o some walk here alike = record {
      between = g;
      count = count;
      merges = walk.merges;
      broken_off = inr (record {
        earlier = earlier;
        later = o;
        stand_in_block = subst (StandsBefore earlier o) (sym walk.lists) (before_here earlier o kept rest here);
        alike = alike;
        count = some;
        redirects = refl;
      });
    }

  pub walk_ends : (f g : Forest N W) (kept : List N.Op) (count : ℕ) → WalkLeads B same b f kept [] g count → Merges B same b f g count
  walk_ends f g kept count walk = record {
    steps = walk.merges;
    none_alike = λ o p before alike. walk.none_alike o p (subst (StandsBefore o p) (walk.lists ∙ append_none kept) before) alike;
  }

module _ {N : Ids} {W : Dialect} (L : Lawful N) (B : Behaviour W) (same : SameAttributes W) (b : N.Block) (keys : ℕ) where
  pub walk_merges : (f g h : Forest N W) (kept rest : List N.Op) (count : ℕ) (earlier o : N.Op) → WellFormed f keys → WalkLeads B same b f kept (o ∷ rest) g count
      → In earlier kept → Alike B same g earlier o → Removes (redirect_results g o earlier) (an_op o) h → WalkLeads B same b f kept rest h (suc count) × ((k : N.Op) → In k kept → h.ops k ≡ g.ops k)
  walk_merges f g h kept rest count earlier o w walk here alike removes = (
    record {
      merges = one_merges walk.merges m;
      in_order = (leaves L B same b keys g h kept rest formed m walk.in_order walk.lists).in_order;
      lists = list_now L B same b keys g h kept rest formed m walk.in_order walk.lists;
      none_alike = still_none L B same b keys g h kept rest formed m walk.in_order walk.lists walk.none_alike;
    },
    kept_same L B same b keys g h kept rest formed m walk.in_order walk.lists,
  )
    where
      formed : WellFormed g keys
      formed = some_formed L B same b keys f g count w walk.merges

      m : MergesOne B same g b h
      m = record {
        earlier = earlier;
        later = o;
        in_order = subst (StandsBefore earlier o) (sym walk.lists) (before_here earlier o kept rest here);
        alike = alike;
        removes = removes;
      }

  pub broken_off_keeps : {V : Type 0} (gives : Interpretation W V) → Respects W V same gives → (f h : Forest N W) → WellFormed f keys → MergesBrokenOff B same b f h → WellFormed h keys × KeepsMeaning B gives f h
  broken_off_keeps gives respects f h w m = elim m.broken_off [
    | inl e ↦ (subst (λ z. WellFormed z keys) (sym e) formed, subst (KeepsMeaning B gives f) (sym e) kept)
    | inr p ↦ (
      partly_formed L B same m.between keys b h formed p,
      meaning_then B gives f m.between h kept (partly_keeps L B same m.between keys b h formed p gives respects),
    )
  ]
    where
      formed : WellFormed m.between keys
      formed = some_formed L B same b keys f m.between m.count w m.merges

      kept : KeepsMeaning B gives f m.between
      kept = some_keep_meaning L B same b keys gives respects f m.between m.count w m.merges
