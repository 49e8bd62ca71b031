-- Mergings in one block after the other, and what they leave of other blocks.
use mathlib.Core.Path.{◌≡◌, refl, sym, ap, ◌∙◌, subst}
use Rattle.std.proofs.Common.{Result, Ok, Err, ℕ, zero, suc, ◌+◌, ◌-◌, ◌≤◌, ◌⊎◌, inl, inr, Bool, true, false, not, cond, Option, Some, None, List, [], ◌∷◌, ◌++◌, length, map, take, get_or, is_some, arith}
use Rattle.std.specs.Prelude.{◌↔◌, slice_get, OnErr}
use Rattle.std.proofs.lemmas.List.{take_more, take_all}
use Rattle.std.proofs.lemmas.Option.{slice_get_within}
use Rattle.ir_model.proofs.Back.{slice_get-in}
use Rattle.std.specs.List.{zip, filter}
use Rattle.std.specs.Option.{option_map}
use Rattle.ir_model.specs.declared.ids.ArenaIndex.{ArenaIndex}
use Rattle.ir_model.specs.ContextIds.{context_ids, same_id}
use Rattle.ir_model.specs.Ids.{Distinct}
use Rattle.ir_model.specs.Forest.{Dialect, Behaviour, Forest, Value, Entity, an_op, a_block, a_region, OpRecord, BlockRecord, same_entity}
use Rattle.ir_model.specs.Nesting.{In, itself, below, Within, Inside, IsLive, Nested, children, list_of, ops_of, regions_of}
use Rattle.ir_model.specs.Changes.{redirect, redirected, on_operands, on_ops, on_regions, but, Removes, unlist}
use Rattle.ir_model.specs.Subtree.{ListsSubtree}
use Rattle.ir_model.proofs.Filters.{In-filter}
use Rattle.ir_model.proofs.Keeps.{is_some-map, list_of-map}
use Rattle.ir_model.proofs.Nests.{Absent-not_in, In-append, In-left, In-right, In-map, not_in-Absent}
use Rattle.ir_model.proofs.TwoRuns.{lawful}
use Rattle.ir_model_passes.specs.Meaning.{SameAttributes}
use Rattle.ir_model_passes.specs.Merging.{StandsBefore, values_given, redirect_each, redirect_results, Alike, MergesOne, MergesPartly, MergesSome, none_merges, one_merges, MergesBrokenOff}
use Rattle.ir_model_passes.specs.MergingInside.{MergesCommon, in_order, out_of_order, merged_of, MergesEach, at_end, one_more, MergesInside, MergesInsideBrokenOff}
use Rattle.ir_run_passes.specs.BlocksInside.{ListsBlocks}
use Rattle.ir_run_passes.proofs.MetSoFar.{in_both}
use Rattle.ir_run_passes.proofs.Places.{read_at}

abbrev pub E : Type 0
E = Entity context_ids

-- with one more item
pub map_push : {A B : Type 0} (f : A → B) (xs : List A) (x : A) (rest : List B) → map f (xs ++ x ∷ []) ++ rest ≡ map f xs ++ f x ∷ rest
map_push f [] x rest = refl
map_push f (y ∷ ys) x rest = ap (λ l. f y ∷ l) (map_push f ys x rest)

-- ## What redirected operands leave

module _ {W : Dialect} where
  kept_regions : (old new : Value context_ids) (m : Option (OpRecord context_ids W)) → list_of (λ (r : OpRecord context_ids W). r.regions) (option_map (on_operands (map (redirected old new))) m) ≡ list_of (λ (r : OpRecord context_ids W). r.regions) m
  kept_regions old new None = refl
  kept_regions old new (Some r) = refl

  each_regions_of : (f : Forest context_ids W) (ps : List (Value context_ids × Value context_ids)) (o : ArenaIndex) → regions_of (redirect_each f ps) o ≡ regions_of f o
  each_regions_of f [] o = refl
  each_regions_of f (q ∷ ps) o = each_regions_of (redirect f q.0 q.1) ps o ∙ kept_regions q.0 q.1 (f.ops o)

  each_blocks_of : (f : Forest context_ids W) (ps : List (Value context_ids × Value context_ids)) (c : ArenaIndex) → (redirect_each f ps).blocks c ≡ f.blocks c
  each_blocks_of f [] c = refl
  each_blocks_of f (q ∷ ps) c = each_blocks_of (redirect f q.0 q.1) ps c

  each_is_some : (f : Forest context_ids W) (ps : List (Value context_ids × Value context_ids)) (o : ArenaIndex) → is_some ((redirect_each f ps).ops o) ≡ is_some (f.ops o)
  each_is_some f [] o = refl
  each_is_some f (q ∷ ps) o = each_is_some (redirect f q.0 q.1) ps o ∙ is_some-map (on_operands (map (redirected q.0 q.1))) (f.ops o)

  -- blocks stay, operations stay that don't stand in the block, and no list has what it hadn't
  pub record StaysBeside (b : ArenaIndex) (f g : Forest context_ids W) : Type 0 where
    pub blocks : (c : ArenaIndex) → IsLive f (a_block c) → IsLive g (a_block c)
    pub ops : (o : ArenaIndex) → (In o (ops_of f b) → ⊥) → IsLive f (an_op o) → IsLive g (an_op o)
    pub lists : (c o : ArenaIndex) → In o (ops_of g c) → In o (ops_of f c)

  pub stays_same : (b : ArenaIndex) (f : Forest context_ids W) → StaysBeside b f f
  stays_same b f = record { blocks = λ c live. live; ops = λ o apart live. live; lists = λ c o h. h }

  pub stays_then : (b : ArenaIndex) (f g h : Forest context_ids W) → StaysBeside b f g → StaysBeside b g h → StaysBeside b f h
  stays_then b f g h s t = record {
    blocks = λ c live. t.blocks c (s.blocks c live);
    ops = λ o apart live. t.ops o (λ k. apart (s.lists b o k)) (s.ops o apart live);
    lists = λ c o k. s.lists c o (t.lists c o k);
  }

  each_stays : (b : ArenaIndex) (f : Forest context_ids W) (ps : List (Value context_ids × Value context_ids)) → StaysBeside b f (redirect_each f ps)
  each_stays b f ps = record {
    blocks = λ c live. ap is_some (each_blocks_of f ps c) ∙ live;
    ops = λ o apart live. each_is_some f ps o ∙ live;
    lists = λ c o h. subst (λ (m : Option (BlockRecord context_ids W)). In o (list_of (λ r. r.ops) m)) (each_blocks_of f ps c) h;
  }

module _ {W : Dialect} (B : Behaviour W) (same : SameAttributes W) (b : ArenaIndex) where
  module _ (f g : Forest context_ids W) (m : MergesOne B same f b g) where
    abbrev pairs : List (Value context_ids × Value context_ids)
    pairs = zip (values_given f m.later) (values_given f m.earlier)

    abbrev between : Forest context_ids W
    between = redirect_each f pairs

    no_regions : regions_of between m.later ≡ []
    no_regions = each_regions_of f pairs m.later ∙ ap (list_of (λ (r : OpRecord context_ids W). r.regions)) m.alike.other_is ∙ m.alike.other_plain.no_regions

    none_in : (x : E) → In x (children between (an_op m.later)) → ⊥
    none_in x h = subst (λ (l : List ArenaIndex). In x (map {A = ArenaIndex} {B = E} a_region l)) no_regions h

    -- nothing but itself is inside the later one
    alone : (x : E) → Inside between (an_op m.later) x → x ≡ an_op m.later
    alone x itself = refl
    alone x (below {c = c} h v) = absurd (none_in x (subst (λ y. In x (children between y)) (alone c v) h))

    block_apart : (c : ArenaIndex) → Inside between (an_op m.later) (a_block c) → ⊥
    block_apart c v = let e : ◌≡◌ {A = E} (a_block c) (an_op m.later) = alone (a_block c) v in absurd cc

    other_op : (o : ArenaIndex) → (o ≡ m.later → ⊥) → Inside between (an_op m.later) (an_op o) → ⊥
    other_op o other v = let e : ◌≡◌ {A = E} (an_op o) (an_op m.later) = alone (an_op o) v in let k : o ≡ m.later = cc in other k

    removed_blocks : (c : ArenaIndex) → g.blocks c ≡ option_map (on_ops (but {N = context_ids} (an_op m.later) an_op)) (between.blocks c)
    removed_blocks c = m.removes.blocks_outside c (block_apart c)

    fewer : (c o : ArenaIndex) → In o (ops_of g c) → In o (ops_of between c)
    fewer c o h = by (between.blocks c) (subst (λ (k : Option (BlockRecord context_ids W)). In o (list_of (λ r. r.ops) k)) (removed_blocks c) h)
      where
        by : (k : Option (BlockRecord context_ids W)) → In o (list_of (λ (r : BlockRecord context_ids W). r.ops) (option_map (on_ops (but {N = context_ids} (an_op m.later) an_op)) k)) → In o (list_of (λ (r : BlockRecord context_ids W). r.ops) k)
        by None h = h
        by (Some r) h = (In-filter (λ x. not (same_entity context_ids (an_op x) (an_op m.later))) o r.ops h).0

    removal_stays : StaysBeside b between g
    removal_stays = record {
      blocks = λ c live. ap is_some (removed_blocks c) ∙ is_some-map (on_ops (but {N = context_ids} (an_op m.later) an_op)) (between.blocks c) ∙ live;
      ops = λ o apart live. ap is_some (m.removes.ops_outside o (other_op o (λ e. apart (subst (λ z. In z (ops_of between b)) (sym e) later_in)))) ∙ is_some-map (on_regions (but {N = context_ids} (an_op m.later) a_region)) (between.ops o) ∙ live;
      lists = fewer;
    }
      where
        later_in : In m.later (ops_of between b)
        later_in = subst (λ (k : Option (BlockRecord context_ids W)). In m.later (list_of (λ r. r.ops) k)) (sym (each_blocks_of f pairs b)) (in_both m.earlier m.later (ops_of f b) m.in_order).1

    one_stays : StaysBeside b f g
    one_stays = stays_then b f between g (each_stays b f pairs) removal_stays

  some_stays : (f g : Forest context_ids W) (n : ℕ) → MergesSome B same b f g n → StaysBeside b f g
  some_stays f g n none_merges = stays_same b f
  some_stays f g _ (one_merges {g = h} {n = k} s m) = stays_then b f h g (some_stays f h k s) (one_stays h g m)

  pub common_stays : (f g : Forest context_ids W) (answer : Option ℕ) → MergesCommon B same f b g answer → StaysBeside b f g
  common_stays f g answer (in_order {count = n} order merges) = some_stays f g n merges.steps
  common_stays f g answer (out_of_order not_so) = stays_same b f

  pub broken_stays : (f h : Forest context_ids W) → MergesBrokenOff B same b f h → StaysBeside b f h
  broken_stays f h m = stays_then b f m.between h (some_stays f m.between m.count m.merges) (elim m.broken_off [
    | inl e ↦ subst (StaysBeside b m.between) (sym e) (stays_same b m.between)
    | inr p ↦ subst (StaysBeside b m.between) (sym p.redirects) (each_stays b m.between (take p.count (zip (values_given m.between p.later) (values_given m.between p.earlier))))
  ])

-- ## One block more

module _ {W : Dialect} (B : Behaviour W) (same : SameAttributes W) where
  pub each_more : (f g h : Forest context_ids W) (blocks : List ArenaIndex) (n : ℕ) (b : ArenaIndex) (answer : Option ℕ) → MergesEach B same f blocks g n → MergesCommon B same g b h answer → (m : ℕ) × MergesEach B same f (blocks ++ b ∷ []) h m
  each_more f g h blocks n b answer at_end now = (merged_of answer + zero, one_more b now at_end)
  each_more f g h _ _ b answer (one_more {g = e} {blocks = rest} {count = k} {answer = a} c first more) now =
      let later = each_more e g h rest k b answer more now in
      (merged_of a + later.0, one_more c first later.1)

-- ## The blocks of a list of entities

abbrev pub blocks_among : List E → List ArenaIndex
blocks_among [] = []
blocks_among (an_op o ∷ xs) = blocks_among xs
blocks_among (a_block b ∷ xs) = b ∷ blocks_among xs
blocks_among (a_region r ∷ xs) = blocks_among xs

pub in_among : (b : ArenaIndex) (xs : List E) → In b (blocks_among xs) → In {A = E} (a_block b) xs
in_among b [] h = h
in_among b (an_op o ∷ xs) h = inr (in_among b xs h)
in_among b (a_block c ∷ xs) (inl e) = inl (ap a_block e)
in_among b (a_block c ∷ xs) (inr h) = inr (in_among b xs h)
in_among b (a_region r ∷ xs) h = inr (in_among b xs h)

pub among_in : (b : ArenaIndex) (xs : List E) → In {A = E} (a_block b) xs → In b (blocks_among xs)
among_in b [] h = h
among_in b (an_op o ∷ xs) (inl e) = absurd cc
among_in b (an_op o ∷ xs) (inr h) = among_in b xs h
among_in b (a_block c ∷ xs) (inl e) = inl cc
among_in b (a_block c ∷ xs) (inr h) = inr (among_in b xs h)
among_in b (a_region r ∷ xs) (inl e) = absurd cc
among_in b (a_region r ∷ xs) (inr h) = among_in b xs h

pub among_once : (xs : List E) → Distinct xs → Distinct (blocks_among xs)
among_once [] d = d
among_once (an_op o ∷ xs) d = among_once xs d.1
among_once (a_block b ∷ xs) d = (Absent-not_in b (blocks_among xs) (λ h. not_in-Absent (a_block b) xs d.0 (in_among b xs h)), among_once xs d.1)
among_once (a_region r ∷ xs) d = among_once xs d.1

-- the blocks among all that is inside an entity are those inside it
pub blocks_listed : {W : Dialect} (f : Forest context_ids W) (e : E) (all : List E) → ListsSubtree f e all → ListsBlocks f e (blocks_among all)
blocks_listed f e all lists = record {
  once = among_once all lists.once;
  exact = λ b. (λ h. (lists.exact (a_block b)).0 (in_among b all h), λ i. among_in b all ((lists.exact (a_block b)).1 i));
}

-- ## So far

module _ {W : Dialect} (B : Behaviour W) (same : SameAttributes W) (f : Forest context_ids W) (root : ArenaIndex) (blocks : List ArenaIndex) where
  -- the first so many blocks were merged; the blocks and the root are there, and no list has what it hadn't
  pub record EachSoFar (n : ℕ) (g : Forest context_ids W) : Type 0 where
    pub count : ℕ
    pub steps : MergesEach B same f (take n blocks) g count
    pub live : (b : ArenaIndex) → In b blocks → IsLive g (a_block b)
    pub root_live : IsLive g (an_op root)
    pub lists : (c o : ArenaIndex) → In o (ops_of g c) → In o (ops_of f c)

  module _ (listed : ListsBlocks f (an_op root) blocks) (nested : Nested f) (live : IsLive f (an_op root)) where
    inside_live : (x : E) → Inside f (an_op root) x → IsLive f x
    inside_live x itself = live
    inside_live x (below {c = c} h v) = nested.live x c h

    pub each_starts : EachSoFar zero f
    each_starts = record {
      count = zero;
      steps = at_end;
      live = λ b h. inside_live (a_block b) ((listed.exact b).0 h);
      root_live = live;
      lists = λ c o h. h;
    }

    module _ (n : ℕ) (g : Forest context_ids W) (so_far : EachSoFar n g) (b : ArenaIndex) (here : In b blocks) where
      -- the root doesn't stand inside itself
      apart : In root (ops_of g b) → ⊥
      apart h = nested.no_cycle (an_op root) (a_block b) (In-map an_op root (ops_of f b) (so_far.lists b root h)) ((listed.exact b).0 here)

      pub each_goes_on : slice_get blocks n ≡ Some b → (h : Forest context_ids W) (answer : Option ℕ) → MergesCommon B same g b h answer → EachSoFar (n + 1) h
      each_goes_on at h answer now =
          let stays = common_stays B same b g h answer now in
          let more = each_more B same f g h (take n blocks) so_far.count b answer so_far.steps now in
          let one : take (n + 1) blocks ≡ take n blocks ++ b ∷ [] = take_more blocks n b (slice_get_within blocks n b at) ∙ ap (λ x. take n blocks ++ x ∷ []) (read_at blocks n b b at) in
          record {
            count = more.0;
            steps = subst (λ xs. MergesEach B same f xs h more.0) (sym one) more.1;
            live = λ c k. stays.blocks c (so_far.live c k);
            root_live = stays.ops root apart so_far.root_live;
            lists = λ c o k. so_far.lists c o (stays.lists c o k);
          }

      pub each_breaks : (h : Forest context_ids W) → MergesBrokenOff B same b g h → MergesInsideBrokenOff B same f (an_op root) h × IsLive h (an_op root)
      each_breaks h broken = (
        record {
          blocks = take n blocks;
          between = g;
          count = so_far.count;
          inside = λ c k. (listed.exact c).0 (in_front n blocks c k);
          steps = so_far.steps;
          broken_off = inr (b, (listed.exact b).0 here, broken);
        },
        (broken_stays B same b g h broken).ops root apart so_far.root_live,
      )
        where
          in_front : (m : ℕ) (xs : List ArenaIndex) (c : ArenaIndex) → In c (take m xs) → In c xs
          in_front zero xs c k = absurd k
          in_front (suc m) [] c k = k
          in_front (suc m) (x ∷ xs) c (inl e) = inl e
          in_front (suc m) (x ∷ xs) c (inr k) = inr (in_front m xs c k)

    pub each_ends : (n : ℕ) (g : Forest context_ids W) (so_far : EachSoFar n g) → length blocks ≤ n → MergesInside B same f (an_op root) g so_far.count
    each_ends n g so_far all = record {
      blocks = blocks;
      once = listed.once;
      all = listed.exact;
      steps = subst (λ xs. MergesEach B same f xs g so_far.count) (take_all n blocks all) so_far.steps;
    }

  -- nothing was done yet
  pub none_breaks : MergesInsideBrokenOff B same f (an_op root) f
  none_breaks = record { blocks = []; between = f; count = zero; inside = λ c k. absurd k; steps = at_end; broken_off = inl refl }

-- what holds holds where it is asked for after a refusal alone
pub on_err : {A F : Type 0} (r : Result A F) (P : Type 0) → P → OnErr r P
on_err (Ok x) P p = tt
on_err (Err e) P p = p
