-- The listing of a subtree has exactly what is inside, each once.
use Rattle.std.proofs.Common.{◌≡◌, ◌-◌, ℕ, suc, [], ◌∷◌, ◌++◌, Some, ap, ◌∙◌, arith}
use Rattle.ir_model.specs.ContextIds.{context_ids}
use Rattle.ir_model.specs.Ids.{Distinct}
use Rattle.ir_model.specs.Forest.{Entity}
use Rattle.ir_model.specs.Nesting.{Nested, children}
use Rattle.ir_model.specs.Subtree.{ListsSubtree}
use Rattle.ir_core_records.specs.declared.records.Records.{Records}
use Rattle.ir_core_records.specs.Meaning.{forest_in}
use Rattle.ir_core_records.specs.Nested.{AreNested}
use Rattle.ir_core_records.specs.Tree.{tree_of}
use Rattle.ir_core_nesting.specs.Climbs.{depth, size, DepthsFit, DepthsFollow}
use Rattle.ir_core_erasing.specs.Walks.{joined_backward, post, subtree}
use Rattle.ir_core_erasing.proofs.Posts.{joined-same, post-within, post-once, listed}

module _ {D A K B S X L : Type 0} (follow : DepthsFollow D A K B S X L) (fit : DepthsFit D A K B S X L) (t : Records D A K B S X L) (nested : AreNested (tree_of t)) (formed : Nested (forest_in t)) where
  pub subtree-is : (e : Entity context_ids) → subtree t e ≡ joined_backward (subtree t) (children (forest_in t) e) ++ e ∷ []
  subtree-is e =
      let fits = fit t (Some e) in
      let k : ℕ = suc (size t) - depth t (Some e) in
      let is : suc (suc (size t)) - depth t (Some e) ≡ suc k = omega (arith, fits) in
      ap (λ n. post n (children (forest_in t)) e) is
      ∙ ap (λ zs. zs ++ e ∷ []) (joined-same (post k (children (forest_in t))) (subtree t) (children (forest_in t) e)
      (λ c h. ap (λ n. post n (children (forest_in t)) c) (let more = follow t c e nested formed h in let same : suc (size t) - depth t (Some e) ≡ suc (suc (size t)) - depth t (Some c) = omega (arith, more) in same)))

  pub subtree-once : (e : Entity context_ids) → Distinct (subtree t e)
  subtree-once e = post-once (children (forest_in t)) formed.one_list formed.once formed.no_cycle (suc (suc (size t)) - depth t (Some e)) e

  pub subtree-lists : (e : Entity context_ids) → ListsSubtree (forest_in t) e (subtree t e)
  subtree-lists e = record {
    once = subtree-once e;
    exact = λ x. (post-within (children (forest_in t)) (suc (suc (size t)) - depth t (Some e)) e x, listed (children (forest_in t)) (subtree t) subtree-is e x);
  }
