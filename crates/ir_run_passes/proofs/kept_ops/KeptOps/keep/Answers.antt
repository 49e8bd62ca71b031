use Rattle.std.proofs.Common.{◌≡◌, ℕ, ◌++◌, [], ◌∷◌, cond, Some, length, nat_eq, sym, ap, ◌∙◌, subst, rules}
use Rattle.std.specs.Prelude.{slice_get}
use Rattle.indexmap.specs.IndexMap.{get}
use Rattle.ir_run_passes.specs.KeptOps.{IsLast}
use Rattle.ir_run_passes.specs.declared.kept_ops.KeptOp.{KeptOp}
use Rattle.ir_run_passes.proofs.Chains.{chains_more, lasts_more}
use Rattle.ir_run_passes.proofs.kept_ops.KeptOps.keep.Goals as goal

pub returns-clause-indexed : goal.returns-clause-indexed
returns-clause-indexed c = λ hash_of hashed was.
    let ops = c.args.self.now.ops.items in
    let k : KeptOp = record { op = c.args.op; earlier = c.in_ok-earlier.earlier } in
    let now : c.push.new.self.items ≡ ops ++ k ∷ [] = c.in_ok-push.ensures.items in
    let last = get nat_eq c.args.self.now.latest in
    let after = get nat_eq c.insert.new.self in
    let place : c.len-place.result ≡ length ops = search rules in
    let put : (q : ℕ) → after q ≡ cond (nat_eq c.args.hash q) (Some (length ops)) (last q) =
    λ q. c.in_ok-earlier.ensures.updates.0 q ∙ ap (λ n. cond (nat_eq c.args.hash q) (Some n) (last q)) place in
    record {
      chains = subst (λ xs. (p : ℕ) (x : KeptOp) → slice_get xs p ≡ Some x → IsLast hash_of xs (hash_of x.op) p x.earlier) (sym now)
          (chains_more hash_of ops k last after c.args.hash hashed c.in_ok-earlier.ensures.old put was.last was.chains);
      last = subst (λ xs. (q : ℕ) → IsLast hash_of xs q (length xs) (after q)) (sym now) (lasts_more hash_of ops k last after c.args.hash hashed c.in_ok-earlier.ensures.old put was.last);
    }
