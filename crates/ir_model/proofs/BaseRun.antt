-- Runs from a new session to ones in which an edit of each kind can be made.
use mathlib.Core.Path.{◌≡◌, refl, sym, ap, ◌∙◌, subst}
use Rattle.std.proofs.Common.{if◌then◌else◌, ℕ, inl, Bool, true, false, Option, Some, None, List, [], ◌∷◌, ◌++◌, cond, arith}
use Rattle.std.specs.List.{list_any}
use Rattle.std.specs.Option.{option_map}
use Rattle.ir_model.specs.Ids.{Ids, Fresh}
use Rattle.ir_model.specs.ContextIds.{context_ids, same_id}
use Rattle.ir_model.specs.Forest.{Dialect, Behaviour, of_op, of_block, Entity, an_op, a_block, a_region, OpRecord, Forest, Named, same_entity}
use Rattle.ir_model.specs.Nesting.{In, Within, itself, below, list_of, children, Inside, IsLinked, IsClosed, names_of, ops_of, blocks_of}
use Rattle.ir_model.specs.Changes.{put, definition, new_op, new_block, no_uses, DropsUses, Removes, unlist}
use Rattle.ir_model.specs.Edits.{Edit, State, Condition, Change, needs, answer as reply, numbered, type_place, with_type, Unused, NewType, NewOp, NewBlock}
use Rattle.ir_model.specs.declared.answer.Answer.{Answer}
use Rattle.ir_model.specs.declared.ids.ArenaIndex.{ArenaIndex}
use Rattle.ir_model.specs.Sessions.{Session, Step, Run, IsNewSession}
use Rattle.ir_model.specs.OneOfEach.{CanBeMade}
use Rattle.ir_model.proofs.Nests.{In-map_back}
use Rattle.ir_model.proofs.TwoRuns.{empty}
use Rattle.ir_model.proofs.Loops.{Lawful}
use Rattle.ir_model.proofs.KeepsErase.{same_self, same_tells}
use Rattle.ir_model.proofs.KeepsUses.{named_by, names_are}
use Rattle.ir_model.proofs.Grows.{new_sound}
use Rattle.ir_model.proofs.StepSound.{steps_sound}
use Rattle.ir_model.proofs.Roomy.{at_state, Roomy, Fits, make, with_more, next, order_more}

-- the first id of a slot
abbrev pub id : ℕ → ArenaIndex
id n = record { slot = n; version = 1 }

abbrev pub base_passed : Fresh context_ids
base_passed = record { ops = id 1 ∷ id 2 ∷ id 3 ∷ []; blocks = id 1 ∷ id 2 ∷ []; regions = id 1 ∷ id 2 ∷ []; numbers = 0 ∷ 1 ∷ []; uses = [] }

-- a map of which every record has a property, with one more of which it holds
put_fixed : {A R : Type 0} (same : A → A → Bool) (h : R → R) (key : A) (v : R) (m : A → Option R) → h v ≡ v → ((x : A) → option_map h (m x) ≡ m x) → (x : A) → option_map h (put same key v m x) ≡ put same key v m x
put_fixed same h key v m e all x = by (same x key)
  where
    by : (b : Bool) → option_map h (cond b (Some v) (m x)) ≡ cond b (Some v) (m x)
    by true = ap Some e
    by false = all x

put_empty : {A R X : Type 0} (same : A → A → Bool) (of : R → List X) (key : A) (v : R) (m : A → Option R) → of v ≡ [] → ((x : A) → list_of of (m x) ≡ []) → (x : A) → list_of of (put same key v m x) ≡ []
put_empty same of key v m e all x = by (same x key)
  where
    by : (b : Bool) → list_of of (cond b (Some v) (m x)) ≡ []
    by true = e
    by false = all x

-- nothing stands inside what has no children, but itself
pub alone : {E : Type 0} (lists : E → List E) (e : E) → lists e ≡ [] → (a : E) → Within lists e a → a ≡ e
alone lists e none a itself = refl
alone lists e none a (below {c = c} h w) =
    let same : c ≡ e = alone lists e none c w in
    let k : In a (lists e) = subst (λ z. In a (lists z)) same h in
    let j : In a [] = rw none at k in
    absurd j

module _ {N : Ids} {W : Dialect} where
  -- no operation names anything, and no list has an operation or a block
  pub record Bare (f : Forest N W) : Type 0 where
    pub uses : (o : N.Op) → option_map no_uses (f.ops o) ≡ f.ops o
    pub ops : (b : N.Block) → ops_of f b ≡ []
    pub blocks : (r : N.Region) → blocks_of f r ≡ []

  module _ (f : Forest N W) (bare : Bare f) where
    no_names : (o : N.Op) → names_of f o ≡ []
    no_names o = names_are f o ∙ ap (list_of named_by) (sym (bare.uses o)) ∙ by (f.ops o)
      where
        by : (m : Option (OpRecord N W)) → list_of named_by (option_map no_uses m) ≡ []
        by None = refl
        by (Some r) = refl

    pub bare_unused : (d : Named N) → Unused f d
    bare_unused d o h = (let k : In d [] = rw (no_names o) at h in k)

    pub bare_closed : (e : Entity N) → IsClosed f e
    bare_closed e o d h = absurd (bare_unused d o h)

    pub bare_drops : (e : Entity N) → DropsUses f e f
    bare_drops e = record { inside = λ o h. sym (bare.uses o); outside = λ o h. refl; either = λ o. inl refl; blocks = refl; regions = refl }

    pub bare_op : (o : N.Op) → IsLinked f (an_op o) → ⊥
    bare_op o ((an_op p), h) = (let at = In-map_back a_region (an_op o) _ h in let e : an_op o ≡ a_region at.0 = at.2 in cc)
    bare_op o ((a_region r), h) = (let at = In-map_back a_block (an_op o) _ h in let e : an_op o ≡ a_block at.0 = at.2 in cc)
    bare_op o ((a_block b), h) = (let at = In-map_back an_op (an_op o) _ h in let k : In at.0 [] = subst (λ l. In at.0 l) (bare.ops b) at.1 in k)

    pub bare_block : (b : N.Block) → IsLinked f (a_block b) → ⊥
    bare_block b ((an_op p), h) = (let at = In-map_back a_region (a_block b) _ h in let e : a_block b ≡ a_region at.0 = at.2 in cc)
    bare_block b ((a_region r), h) = (let at = In-map_back a_block (a_block b) _ h in let k : In at.0 [] = subst (λ l. In at.0 l) (bare.blocks r) at.1 in k)
    bare_block b ((a_block c), h) = (let at = In-map_back an_op (a_block b) _ h in let e : a_block b ≡ an_op at.0 = at.2 in cc)

  module _ (L : Lawful N) (f : Forest N W) where
    -- the forest without one entity that has no children
    abbrev pub taken : Entity N → Forest N W
    taken e = record {
      ops = λ o. if same_entity N (an_op o) e then None else (unlist e f).ops o;
      blocks = λ b. if same_entity N (a_block b) e then None else (unlist e f).blocks b;
      regions = λ r. if same_entity N (a_region r) e then None else (unlist e f).regions r;
    }

    pub taken_removes : (e : Entity N) → children f e ≡ [] → Removes f e (taken e)
    taken_removes e none = record {
      ops_inside = λ o h. inside (an_op o) ((unlist e f).ops o) h;
      ops_outside = λ o h. outside (an_op o) ((unlist e f).ops o) h;
      blocks_inside = λ o h. inside (a_block o) ((unlist e f).blocks o) h;
      blocks_outside = λ o h. outside (a_block o) ((unlist e f).blocks o) h;
      regions_inside = λ o h. inside (a_region o) ((unlist e f).regions o) h;
      regions_outside = λ o h. outside (a_region o) ((unlist e f).regions o) h;
    }
      where
        inside : {R : Type 0} (x : Entity N) (kept : Option R) → Inside f e x → cond (same_entity N x e) None kept ≡ None
        inside x kept h = rw (subst (λ z. same_entity N z e ≡ true) (sym (alone (children f) e none x h)) (same_self N L e)) refl

        outside : {R : Type 0} (x : Entity N) (kept : Option R) → (Inside f e x → ⊥) → cond (same_entity N x e) None kept ≡ kept
        outside x kept h = by (same_entity N x e) refl
          where
            by : (b : Bool) → same_entity N x e ≡ b → cond b None kept ≡ kept
            by true s = absurd (h (subst (Within (children f) e) (sym (same_tells N L x e s)) itself))
            by false s = refl

module _ {W : Dialect} (B : Behaviour W) where
  run_then : (edits : List (Edit W)) (answers : List Answer) (s t u : Session W) (edit : Edit W) (a : Answer) → Run B s edits answers t → Step B t edit a u → Run B s (edits ++ edit ∷ []) (answers ++ a ∷ []) u
  run_then [] answers s t u edit a r step = (a, [], u, ap (λ xs. xs ++ a ∷ []) r.0, subst (λ x. Step B x edit a u) r.1 step, (refl, refl))
  run_then (e ∷ rest) answers s t u edit a r step = (r.0, r.1 ++ a ∷ [], r.2, ap (λ xs. xs ++ a ∷ []) r.3, r.4, run_then rest r.1 r.2 t u edit a r.5 step)

  -- a run from a new session leads to the state, with these handed out
  pub record Reached (s : State context_ids W) (a : Fresh context_ids) : Type 0 where
    pub new : Session W
    pub edits : List (Edit W)
    pub answers : List Answer
    pub is_new : IsNewSession new
    pub run : Run B new edits answers (at_state s a)
    pub roomy : Roomy s a

  pub start : Reached (empty context_ids) (record { ops = []; blocks = []; regions = []; numbers = []; uses = [] })
  start = record {
    new = at_state (empty context_ids) (record { ops = []; blocks = []; regions = []; numbers = []; uses = [] });
    edits = [];
    answers = [];
    is_new = is_new;
    run = (refl, refl);
    roomy = record {
      sound = new_sound _ is_new;
      order = record { ops = (tt, λ i h. elim h [ ]); blocks = (tt, λ i h. elim h [ ]); regions = (tt, λ i h. elim h [ ]); numbers = (tt, λ i h. elim h [ ]); uses = (tt, λ i h. elim h [ ]) };
    };
  }
    where
      is_new : IsNewSession (at_state (empty {W = W} context_ids) (record { ops = []; blocks = []; regions = []; numbers = []; uses = [] }))
      is_new = record { ops = λ i. refl; blocks = λ i. refl; regions = λ i. refl; store = refl; tables = refl; none_passed = refl }

  pub then_edit : (s t : State context_ids W) (a : Fresh context_ids) (edit : Edit W) → Reached s a → Fits a (needs edit) → Condition s edit → Change B s edit (next a (needs edit)) t → Reached t (with_more a (next a (needs edit)))
  then_edit s t a edit r fits c change =
      let step = make B edit s t a r.roomy fits c change in
      record {
        new = r.new;
        edits = r.edits ++ edit ∷ [];
        answers = r.answers ++ reply s edit ∷ [];
        is_new = r.is_new;
        run = run_then r.edits r.answers r.new (at_state s a) _ edit (reply s edit) r.run step;
        roomy = record { sound = steps_sound B edit _ _ _ r.roomy.sound step; order = order_more a (needs edit) r.roomy.order };
      }

  pub can : (s t : State context_ids W) (a : Fresh context_ids) (edit : Edit W) → Reached s a → Fits a (needs edit) → Condition s edit → Change B s edit (next a (needs edit)) t → CanBeMade B edit
  can s t a edit r fits c change = record {
    new = r.new;
    before = at_state s a;
    after = at_state t (with_more a (next a (needs edit)));
    earlier = r.edits;
    answers = r.answers;
    is_new = r.is_new;
    run = r.run;
    step = make B edit s t a r.roomy fits c change;
  }

  module _ (key : W.Key) where
    abbrev typed : State context_ids W
    typed = record (empty {W = W} context_ids) { store = with_type B [] key; tables = record ((empty {W = W} context_ids).tables) { types = type_place B [] key ∷ [] } }

    -- with a result and two regions
    abbrev first_op : State context_ids W
    first_op = record typed {
      forest = new_op typed.forest (id 1) B.unknown 0 (definition (0, 0) ∷ []) [] [] (id 1 ∷ id 2 ∷ []);
      tables = record (typed.tables) { ops = id 1 ∷ []; regions = id 1 ∷ id 2 ∷ []; values = numbered (of_op (id 1)) (0 ∷ []) };
    }

    reached_typed : Reached typed (record { ops = []; blocks = []; regions = []; numbers = []; uses = [] })
    reached_typed = then_edit (empty context_ids) typed _ (NewType key) start (record { ops = omega arith; blocks = omega arith; regions = omega arith; numbers = omega arith; uses = omega arith }) tt refl

    reached_first : Reached first_op (record { ops = id 1 ∷ []; blocks = []; regions = id 1 ∷ id 2 ∷ []; numbers = 0 ∷ []; uses = [] })
    reached_first = then_edit typed first_op _ (NewOp 0 (0 ∷ []) [] [] 2) reached_typed (record { ops = omega arith; blocks = omega arith; regions = omega arith; numbers = omega arith; uses = omega arith })
        ((omega arith, tt), tt, tt) (record { value = id 1; found = refl; holds = refl })

    abbrev plain_op : State context_ids W → ℕ → State context_ids W
    plain_op s n = record s { forest = new_op s.forest (id n) B.unknown 0 [] [] [] []; tables = record (s.tables) { ops = s.tables.ops ++ id n ∷ [] } }

    abbrev three_ops : State context_ids W
    three_ops = plain_op (plain_op first_op 2) 3

    -- the first with an argument
    abbrev pub base : State context_ids W
    base = record three_ops {
      forest = new_block (new_block three_ops.forest (id 1) B.unknown None (definition (1, 0) ∷ [])) (id 2) B.unknown None [];
      tables = record (three_ops.tables) { blocks = id 1 ∷ id 2 ∷ []; values = three_ops.tables.values ++ numbered (of_block (id 1)) (1 ∷ []) };
    }

    reached_second : Reached (plain_op first_op 2) (record { ops = id 1 ∷ id 2 ∷ []; blocks = []; regions = id 1 ∷ id 2 ∷ []; numbers = 0 ∷ []; uses = [] })
    reached_second = then_edit first_op (plain_op first_op 2) _ (NewOp 0 [] [] [] 0) reached_first (record { ops = omega arith; blocks = omega arith; regions = omega arith; numbers = omega arith; uses = omega arith })
        (tt, tt, tt) (record { value = id 2; found = refl; holds = refl })

    reached_third : Reached three_ops (record { ops = id 1 ∷ id 2 ∷ id 3 ∷ []; blocks = []; regions = id 1 ∷ id 2 ∷ []; numbers = 0 ∷ []; uses = [] })
    reached_third = then_edit (plain_op first_op 2) three_ops _ (NewOp 0 [] [] [] 0) reached_second (record { ops = omega arith; blocks = omega arith; regions = omega arith; numbers = omega arith; uses = omega arith })
        (tt, tt, tt) (record { value = id 3; found = refl; holds = refl })

    abbrev one_block : State context_ids W
    one_block = record three_ops {
      forest = new_block three_ops.forest (id 1) B.unknown None (definition (1, 0) ∷ []);
      tables = record (three_ops.tables) { blocks = id 1 ∷ []; values = three_ops.tables.values ++ numbered (of_block (id 1)) (1 ∷ []) };
    }

    reached_block : Reached one_block (record { ops = id 1 ∷ id 2 ∷ id 3 ∷ []; blocks = id 1 ∷ []; regions = id 1 ∷ id 2 ∷ []; numbers = 0 ∷ 1 ∷ []; uses = [] })
    reached_block = then_edit three_ops one_block _ (NewBlock None (0 ∷ [])) reached_third (record { ops = omega arith; blocks = omega arith; regions = omega arith; numbers = omega arith; uses = omega arith })
        (omega arith, tt) (record { value = id 1; found = refl; holds = refl })

    pub reached_base : Reached base base_passed
    reached_base = then_edit one_block base _ (NewBlock None []) reached_block (record { ops = omega arith; blocks = omega arith; regions = omega arith; numbers = omega arith; uses = omega arith })
        tt (record { value = id 2; found = refl; holds = refl })

    pub base_bare : Bare base.forest
    base_bare = record {
      uses = put_fixed same_id no_uses (id 3) _ _ refl (put_fixed same_id no_uses (id 2) _ _ refl (put_fixed same_id no_uses (id 1) _ _ refl (λ x. refl)));
      ops = put_empty same_id (λ r. r.ops) (id 2) _ _ refl (put_empty same_id (λ r. r.ops) (id 1) _ _ refl (λ x. refl));
      blocks = no_blocks;
    }
      where
        no_blocks : (r : ArenaIndex) → blocks_of base.forest r ≡ []
        no_blocks r = by (list_any (λ s. same_id s r) (id 1 ∷ id 2 ∷ []))
          where
            by : (b : Bool) → list_of {X = ArenaIndex} (λ bs. bs) (cond b (Some []) None) ≡ []
            by true = refl
            by false = refl
