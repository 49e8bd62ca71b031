-- The conditions of edits that name entries of the tables by their numbers.
use Rattle.std.proofs.Common.{◌≡◌, refl, sym, ap, subst, ℕ, List, Option, Some, None, IsSome}
use Rattle.std.specs.Prelude.{slice_get}
use Rattle.ir_model.specs.declared.ids.ArenaIndex.{ArenaIndex}
use Rattle.ir_model.specs.ContextIds.{context_ids}
use Rattle.ir_model.specs.Forest.{Dialect, Forest, Value, a_block, a_region, a_value, an_op}
use Rattle.ir_model.specs.Nesting.{IsLive, IsLiveNamed, list_of}
use Rattle.ir_model.specs.Edits.{Tables, The}
use Rattle.ir_run_sessions.specs.Named.{Names}

-- what is there is some value
pub the_value : {A : Type 0} (m : Option A) → IsSome m → (x : A) × (m ≡ Some x)
the_value None h = absurd cc
the_value (Some x) h = (x, refl)

pub there_so : {A : Type 0} (m : Option A) (R : Type 0) → IsSome m → R → The m (λ _. R)
there_so m R h r = let x = the_value m h in record { value = x.0; found = x.1; holds = r }

pub is_there : {A : Type 0} (m : Option A) (x : A) → m ≡ Some x → IsSome m
is_there None x e = absurd cc
is_there (Some y) x e = refl

-- the entries of a table, and how the definitions say of a kind of entries that one is live, and R holds
pub record Kind : Type 1 where
  pub Entry : Type 0
  pub IsLiveAs : Entry → Type 0
  pub table : List Entry
  pub Live : Entry → Type 0 → Type 0
  pub put : (i : Entry) (R : Type 0) → IsLiveAs i → R → Live i R
  pub take : (i : Entry) (R : Type 0) → Live i R → IsLiveAs i × R

module _ {W : Dialect} (f : Forest context_ids W) (tb : Tables context_ids) where
  abbrev pub ops : Kind
  ops = record {
    Entry = ArenaIndex;
    IsLiveAs = λ i. IsLive f (an_op i);
    table = tb.ops;
    Live = λ i R. The (f.ops i) (λ _. R);
    put = λ i R l r. there_so (f.ops i) R l r;
    take = λ i R t. (is_there (f.ops i) t.value t.found, t.holds);
  }

  abbrev pub blocks : Kind
  blocks = record {
    Entry = ArenaIndex;
    IsLiveAs = λ i. IsLive f (a_block i);
    table = tb.blocks;
    Live = λ i R. The (f.blocks i) (λ _. R);
    put = λ i R l r. there_so (f.blocks i) R l r;
    take = λ i R t. (is_there (f.blocks i) t.value t.found, t.holds);
  }

  abbrev pub regions : Kind
  regions = record {
    Entry = ArenaIndex;
    IsLiveAs = λ i. IsLive f (a_region i);
    table = tb.regions;
    Live = λ i R. IsSome (f.regions i) × R;
    put = λ i R l r. (l, r);
    take = λ i R t. t;
  }

  abbrev pub values : Kind
  values = record {
    Entry = Value context_ids;
    IsLiveAs = λ v. IsLiveNamed f (a_value v);
    table = tb.values;
    Live = λ v R. IsLiveNamed f (a_value v) × R;
    put = λ v R l r. (l, r);
    take = λ v R t. t;
  }

-- the conditions of edits that name one entry or two
module _ (a : Kind) (n : ℕ) (R : a.Entry → Type 0) where
  abbrev pub One : Type 0
  One = The (slice_get a.table n) (λ i. a.Live i (R i))

  pub one : (i : a.Entry) → Names a.IsLiveAs a.table n i → R i → One
  one i x r = record { value = i; found = x.found; holds = a.put i (R i) x.live r }

  pub not_one : ((i : a.Entry) → Names a.IsLiveAs a.table n i → R i → ⊥) → One → ⊥
  not_one fails t = let h = a.take t.value (R t.value) t.holds in fails t.value (record { found = t.found; live = h.0 }) h.1

module _ (a b : Kind) (n m : ℕ) (R : a.Entry → b.Entry → Type 0) where
  abbrev pub Two : Type 0
  Two = One a n (λ i. One b m (R i))

  pub two : (i : a.Entry) (j : b.Entry) → Names a.IsLiveAs a.table n i → Names b.IsLiveAs b.table m j → R i j → Two
  two i j x y r = one a n (λ k. One b m (R k)) i x (one b m (R i) j y r)

  pub not_two : ((i : a.Entry) (j : b.Entry) → Names a.IsLiveAs a.table n i → Names b.IsLiveAs b.table m j → R i j → ⊥) → Two → ⊥
  not_two fails = not_one a n (λ k. One b m (R k)) (λ i x. not_one b m (R i) (λ j y r. fails i j x y r))

-- what holds of a list of an entry that is found holds of that list of its record
module _ {I R X : Type 0} (table : List I) (records : I → Option R) (of : R → List X) (P : I → List X → Type 0) (n : ℕ) where
  pub listed : The (slice_get table n) (λ i. The (records i) (λ _. P i (list_of of (records i)))) → The (slice_get table n) (λ i. The (records i) (λ r. P i (of r)))
  listed t = record { value = t.value; found = t.found; holds = record { value = t.holds.value; found = t.holds.found; holds = subst (P t.value) (ap (list_of of) t.holds.found) t.holds.holds } }

  pub unlisted : The (slice_get table n) (λ i. The (records i) (λ r. P i (of r))) → The (slice_get table n) (λ i. The (records i) (λ _. P i (list_of of (records i))))
  unlisted t = record { value = t.value; found = t.found; holds = record { value = t.holds.value; found = t.holds.found; holds = subst (P t.value) (sym (ap (list_of of) t.holds.found)) t.holds.holds } }
