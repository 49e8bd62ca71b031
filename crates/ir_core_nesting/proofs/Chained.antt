-- Changes that leave all chains.
use mathlib.Core.Path.{fun_ext}
use Rattle.std.proofs.Common.{◌≡◌, ℕ, suc, nat_eq, Bool, true, false, cond, List, [], ◌∷◌, All, refl, arith}
use Rattle.ir_model.specs.declared.ids.ArenaIndex.{ArenaIndex}
use Rattle.ir_core_records.specs.declared.record.Definer.{Definer}
use Rattle.ir_core_records.specs.declared.record.Definer.TheVariants.{Op, Block}
use Rattle.ir_core_records.specs.declared.record.BlockIndex.{BlockIndex}
use Rattle.ir_core_records.specs.declared.record.Definition.{Definition}
use Rattle.ir_core_records.specs.declared.records.Records.{Records}
use Rattle.ir_core_records.specs.Lists.{uses_with}
use Rattle.ir_core_records.specs.Table.{operands_at, successors_at, definitions_at, uses_at, block_uses_at}
use Rattle.ir_core_records.specs.Chains.{chains_of}

-- no definition of these has uses
pub uses-none : (rs : List Definition) (n : ℕ) → All (λ (r : Definition). r.uses ≡ []) rs → uses_with rs n ≡ []
uses-none [] n h = refl
uses-none (r ∷ rs) n h = by (nat_eq r.number n) (uses-none rs n (λ k d w. h (suc k) d (omega (arith, w))))
  where
    by : (b : Bool) → uses_with rs n ≡ [] → cond b r.uses (uses_with rs n) ≡ []
    by true e = h 0 r (omega arith)
    by false e = e

module _ {D A K B S X L : Type 0} (old new : Records D A K B S X L) where
  uses-by : ((d : Definer) (n : ℕ) → uses_with (definitions_at new d) n ≡ uses_with (definitions_at old d) n) → uses_at new ≡ uses_at old
  uses-by same = fun_ext (λ v. same v.definer v.number)

  -- the chains are told by what each operation and each block keeps
  pub chains-same : ((o : ArenaIndex) → operands_at new o ≡ operands_at old o)
      → ((o : ArenaIndex) → successors_at new o ≡ successors_at old o)
      → ((o : ArenaIndex) (n : ℕ) → uses_with (definitions_at new (Op o)) n ≡ uses_with (definitions_at old (Op o)) n)
      → ((b : ArenaIndex) (n : ℕ) → uses_with (definitions_at new (Block b)) n ≡ uses_with (definitions_at old (Block b)) n)
      → ((b : BlockIndex) → block_uses_at new b ≡ block_uses_at old b)
      → chains_of new ≡ chains_of old
  chains-same operands successors results arguments block_uses = λ i. record {
    operands = fun_ext operands i;
    successors = fun_ext successors i;
    uses = uses-by by i;
    block_uses = fun_ext block_uses i;
  }
    where
      by : (d : Definer) (n : ℕ) → uses_with (definitions_at new d) n ≡ uses_with (definitions_at old d) n
      by (Op o) n = results o n
      by (Block b) n = arguments b n
