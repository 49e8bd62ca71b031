-- The lists of all records are kept, apart from one another.
use Rattle.std.proofs.Common.{◌≡◌, ◌⊎◌, ℕ, List, [], Some, slice_get, refl, sym, ap, subst, inl, inr}
use Rattle.std.proofs.lemmas.Bool.{cases_eq}
use Rattle.ir_model.specs.declared.ids.ArenaIndex.{ArenaIndex}
use Rattle.ir_model.proofs.IdCases.{id_cases}
use Rattle.ir_core_records.specs.declared.record.Definer.{Definer}
use Rattle.ir_core_records.specs.declared.record.Definer.TheVariants.{Op, Block}
use Rattle.ir_core_records.specs.declared.record.ValueIndex.{ValueIndex}
use Rattle.ir_core_records.specs.declared.record.BlockIndex.{BlockIndex}
use Rattle.ir_core_records.specs.declared.record.UseIndex.{UseIndex}
use Rattle.ir_core_records.specs.declared.record.UsePlace.{UsePlace}
use Rattle.ir_core_records.specs.declared.record.Definition.{Definition}
use Rattle.ir_core_records.specs.declared.record.Operation.{Operation}
use Rattle.ir_core_records.specs.declared.record.BasicBlock.{BasicBlock}
use Rattle.ir_core_records.specs.declared.records.Records.{Records}
use Rattle.ir_core_records.specs.Lists.{in_record, uses_with, put_uses, HasNumber}
use Rattle.ir_core_chains.specs.Chain.{AreKept, IsUseChain}
use Rattle.ir_core_records.specs.Table.{IsOp, IsLiveBlock, IsValue, operands_at, successors_at, block_uses_at, definitions_at, uses_at, with_operands, with_successors, with_block_uses, with_uses_by, with_uses}
use Rattle.ir_core_chains.specs.Edits.{edited-kept, edited-live, field-kept, numbered-kept, lifted, rekeyed}

definer_cases : (d e : Definer) → (d ≡ e) ⊎ (¬ (d ≡ e))
definer_cases (Op o) (Op p) = elim (id_cases o p) [ inl e ↦ inl (ap Op e) | inr differs ↦ inr (λ e. differs (cc)) ]
definer_cases (Op o) (Block b) = inr (λ e. absurd (cc))
definer_cases (Block b) (Op o) = inr (λ e. absurd (cc))
definer_cases (Block b) (Block c) = elim (id_cases b c) [ inl e ↦ inl (ap Block e) | inr differs ↦ inr (λ e. differs (cc)) ]

-- whether two values are one
pub value_cases : (v w : ValueIndex) → (v ≡ w) ⊎ (¬ (v ≡ w))
value_cases v w =
    elim (definer_cases v.definer w.definer) [
      | inl e ↦ elim (cases_eq v.number w.number) [
        | inl f ↦ inl (λ i. record { definer = e i; number = f i })
        | inr f ↦ inr (λ q. f (ap (λ (x : ValueIndex). x.number) q))
      ]
      | inr e ↦ inr (λ q. e (ap (λ (x : ValueIndex). x.definer) q))
    ]

same_block : (b c : BlockIndex) → b.index ≡ c.index → b ≡ c
same_block b c e = λ i. record { index = e i }

-- whether two blocks are one
pub block_cases : (b c : BlockIndex) → (b ≡ c) ⊎ (¬ (b ≡ c))
block_cases b c = elim (id_cases b.index c.index) [ inl e ↦ inl (same_block b c e) | inr differs ↦ inr (λ e. differs (ap (λ (x : BlockIndex). x.index) e)) ]

module _ {D A K B S X L : Type 0} where
  kept-operands : AreKept (IsOp {D = D} {A = A} {K = K} {B = B} {S = S} {X = X} {L = L}) operands_at with_operands
  kept-operands =
      lifted (λ (r : Records D A K B S X L). r.ops) (λ r a. record r { ops = a }) (λ r s. refl) (λ r. refl) (λ r s q. refl)
      (field-kept (λ (op : Operation D A K B S X L). op.operands) (λ xs op. record op { operands = xs }) (λ l x. refl) (λ x. refl) (λ l m x. refl))

  kept-successors : AreKept (IsOp {D = D} {A = A} {K = K} {B = B} {S = S} {X = X} {L = L}) successors_at with_successors
  kept-successors =
      lifted (λ (r : Records D A K B S X L). r.ops) (λ r a. record r { ops = a }) (λ r s. refl) (λ r. refl) (λ r s q. refl)
      (field-kept (λ (op : Operation D A K B S X L). op.successors) (λ xs op. record op { successors = xs }) (λ l x. refl) (λ x. refl) (λ l m x. refl))

  kept-block_uses : AreKept (IsLiveBlock {D = D} {A = A} {K = K} {B = B} {S = S} {X = X} {L = L}) block_uses_at with_block_uses
  kept-block_uses =
      rekeyed (λ (b : BlockIndex). b.index) same_block
      (lifted (λ (r : Records D A K B S X L). r.blocks) (λ r a. record r { blocks = a }) (λ r s. refl) (λ r. refl) (λ r s q. refl)
      (field-kept (λ (b : BasicBlock D A K B S X L). b.uses) (λ xs b. record b { uses = xs }) (λ l x. refl) (λ x. refl) (λ l m x. refl)))

  -- the uses of results, and those of arguments
  abbrev Uses : Definer → ℕ → Records D A K B S X L → List UseIndex
  Uses d n t = uses_with (definitions_at t d) n

  kept-results : AreKept {S = Records D A K B S X L} {K = ArenaIndex × ℕ} (λ t k. HasNumber (definitions_at t (Op k.0)) k.1) (λ t k. Uses (Op k.0) k.1 t) (λ t k us. with_uses_by t (Op k.0) k.1 us)
  kept-results =
      lifted (λ (r : Records D A K B S X L). r.ops) (λ r a. record r { ops = a }) (λ r s. refl) (λ r. refl) (λ r s q. refl)
      (numbered-kept (λ (op : Operation D A K B S X L). op.results) (λ xs op. record op { results = xs }) (λ l x. refl) (λ x. refl) (λ l m x. refl))

  kept-arguments : AreKept {S = Records D A K B S X L} {K = ArenaIndex × ℕ} (λ t k. HasNumber (definitions_at t (Block k.0)) k.1) (λ t k. Uses (Block k.0) k.1 t) (λ t k us. with_uses_by t (Block k.0) k.1 us)
  kept-arguments =
      lifted (λ (r : Records D A K B S X L). r.blocks) (λ r a. record r { blocks = a }) (λ r s. refl) (λ r. refl) (λ r s q. refl)
      (numbered-kept (λ (b : BasicBlock D A K B S X L). b.arguments) (λ xs b. record b { arguments = xs }) (λ l x. refl) (λ x. refl) (λ l m x. refl))

  -- both kinds of values, by what defines them
  other-op : (t : Records D A K B S X L) (o : ArenaIndex) (n : ℕ) (us : List UseIndex) → HasNumber (definitions_at t (Op o)) n → (d : Definer) (m : ℕ) → ¬ (◌≡◌ {A = ValueIndex} (record { definer = d; number = m }) (record { definer = Op o; number = n })) → Uses d m (with_uses_by t (Op o) n us) ≡ Uses d m t
  other-op t o n us h (Op p) m ne = kept-results.others t (o, n) us h (p, m) (λ e. ne (λ i. record { definer = Op (e i).0; number = (e i).1 }))
  other-op t o n us h (Block b) m ne = refl

  other-block : (t : Records D A K B S X L) (o : ArenaIndex) (n : ℕ) (us : List UseIndex) → HasNumber (definitions_at t (Block o)) n → (d : Definer) (m : ℕ) → ¬ (◌≡◌ {A = ValueIndex} (record { definer = d; number = m }) (record { definer = Block o; number = n })) → Uses d m (with_uses_by t (Block o) n us) ≡ Uses d m t
  other-block t o n us h (Op p) m ne = refl
  other-block t o n us h (Block p) m ne = kept-arguments.others t (o, n) us h (p, m) (λ e. ne (λ i. record { definer = Block (e i).0; number = (e i).1 }))

  here : (t : Records D A K B S X L) (d : Definer) (n : ℕ) (us : List UseIndex) → HasNumber (definitions_at t d) n → Uses d n (with_uses_by t d n us) ≡ us
  here t (Op o) n us h = kept-results.here t (o, n) us h
  here t (Block b) n us h = kept-arguments.here t (b, n) us h

  others : (t : Records D A K B S X L) (d : Definer) (n : ℕ) (us : List UseIndex) → HasNumber (definitions_at t d) n → (e : Definer) (m : ℕ) → ¬ (◌≡◌ {A = ValueIndex} (record { definer = e; number = m }) (record { definer = d; number = n })) → Uses e m (with_uses_by t d n us) ≡ Uses e m t
  others t (Op o) n us h e m ne = other-op t o n us h e m ne
  others t (Block b) n us h e m ne = other-block t b n us h e m ne

  self : (t : Records D A K B S X L) (d : Definer) (n : ℕ) → with_uses_by t d n (Uses d n t) ≡ t
  self t (Op o) n = kept-results.self t (o, n)
  self t (Block b) n = kept-arguments.self t (b, n)

  twice : (t : Records D A K B S X L) (d : Definer) (n : ℕ) (us vs : List UseIndex) → HasNumber (definitions_at t d) n → with_uses_by (with_uses_by t d n us) d n vs ≡ with_uses_by t d n vs
  twice t (Op o) n us vs h = kept-results.twice t (o, n) us vs h
  twice t (Block b) n us vs h = kept-arguments.twice t (b, n) us vs h

  has : (t : Records D A K B S X L) (d : Definer) (n i : ℕ) (u : UseIndex) → slice_get (Uses d n t) i ≡ Some u → HasNumber (definitions_at t d) n
  has t (Op o) n i u h = kept-results.has t (o, n) i u h
  has t (Block b) n i u h = kept-arguments.has t (b, n) i u h

  keeps : (t : Records D A K B S X L) (d : Definer) (n : ℕ) (us : List UseIndex) (e : Definer) (m : ℕ) → HasNumber (definitions_at t e) m → HasNumber (definitions_at (with_uses_by t d n us) e) m
  keeps t (Op o) n us (Op p) m h = kept-results.keeps t (o, n) us (p, m) h
  keeps t (Op o) n us (Block p) m h = h
  keeps t (Block b) n us (Op p) m h = h
  keeps t (Block b) n us (Block p) m h = kept-arguments.keeps t (b, n) us (p, m) h

  kept-values : AreKept (IsValue {D = D} {A = A} {K = K} {B = B} {S = S} {X = X} {L = L}) uses_at with_uses
  kept-values = record {
    here = λ t v us h. here t v.definer v.number us h;
    others = λ t v us h w ne. others t v.definer v.number us h w.definer w.number ne;
    self = λ t v. self t v.definer v.number;
    twice = λ t v us vs h. twice t v.definer v.number us vs h;
    has = λ t v i u h. has t v.definer v.number i u h;
    keeps = λ t v us w h. keeps t v.definer v.number us w.definer w.number h;
  }

  -- a write of operands leaves results and arguments
  definitions-with_operands : (t : Records D A K B S X L) (o : ArenaIndex) (xs : List (UsePlace ValueIndex)) (d : Definer) → definitions_at (with_operands t o xs) d ≡ definitions_at t d
  definitions-with_operands t o xs (Op p) = edited-kept (in_record (λ (op : Operation D A K B S X L). op.results) []) (λ op. record op { operands = xs }) (λ x. refl) t.ops o p
  definitions-with_operands t o xs (Block b) = refl

  operands-with_uses : (t : Records D A K B S X L) (d : Definer) (n : ℕ) (us : List UseIndex) (p : ArenaIndex) → operands_at (with_uses_by t d n us) p ≡ operands_at t p
  operands-with_uses t (Op o) n us p = edited-kept (in_record (λ (op : Operation D A K B S X L). op.operands) []) (λ op. record op { results = put_uses op.results n us }) (λ x. refl) t.ops o p
  operands-with_uses t (Block b) n us p = refl

  live-with_uses : (t : Records D A K B S X L) (d : Definer) (n : ℕ) (us : List UseIndex) (p : ArenaIndex) → IsOp t p → IsOp (with_uses_by t d n us) p
  live-with_uses t (Op o) n us p live = edited-live (λ (op : Operation D A K B S X L). record op { results = put_uses op.results n us }) t.ops o p live
  live-with_uses t (Block b) n us p live = live

  -- operands and the uses of values
  pub chain-values : IsUseChain (IsOp {D = D} {A = A} {K = K} {B = B} {S = S} {X = X} {L = L}) operands_at with_operands IsValue uses_at with_uses
  chain-values = record {
    place_lists = kept-operands;
    use_lists = kept-values;
    uses_stay = λ t o xs. λ i v. uses_with (definitions-with_operands t o xs v.definer i) v.number;
    places_stay = λ t v us. λ i p. operands-with_uses t v.definer v.number us p i;
    has_stays = λ t o xs v h. subst (λ (ds : List Definition). HasNumber ds v.number) (sym (definitions-with_operands t o xs v.definer)) h;
    live_stays = λ t v us o live. live-with_uses t v.definer v.number us o live;
    tell = value_cases;
  }

  -- successors and the uses of blocks: they lie in two arenas
  pub chain-blocks : IsUseChain (IsOp {D = D} {A = A} {K = K} {B = B} {S = S} {X = X} {L = L}) successors_at with_successors IsLiveBlock block_uses_at with_block_uses
  chain-blocks = record {
    place_lists = kept-successors;
    use_lists = kept-block_uses;
    uses_stay = λ t o xs. refl;
    places_stay = λ t b us. refl;
    has_stays = λ t o xs b h. h;
    live_stays = λ t b us o live. live;
    tell = block_cases;
  }
