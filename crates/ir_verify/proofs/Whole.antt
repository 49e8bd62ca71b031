-- What stands at an entity as root is what stands at the entities inside it, one by one.
use Rattle.std.proofs.Common.{◌≡◌, ◌⊎◌, ℕ, List, Option, Some, None, refl, sym, subst, inl, inr}
use Rattle.ir_model.specs.declared.ids.ArenaIndex.{ArenaIndex}
use Rattle.ir_model.specs.ContextIds.{context_ids}
use Rattle.ir_model.specs.Edits.{StoredType, The}
use Rattle.ir_model.specs.Faults.{Fault, NoParent, MissingTerminator, TerminatorNotLast, EntryHasPred, OperandNotUseOfDef, Verifier, NamesBlock, Check, op_list, op_own, attr_list, attr_own, type_list, type_own, Checks, the_entity, the_attribute, the_type, IsRun, FaultStands, Carries, HasKey}
use Rattle.ir_model.specs.Forest.{Text, Dialect, Behaviour, Forest, Entity, an_op, a_block, a_region, Definer, of_op, of_block, Definition, definer_entity}
use Rattle.ir_model.specs.Nesting.{In, Inside, definitions_of, list_of}
use Rattle.ir_verify.proofs.Roots.{there-stands}
use Rattle.ir_verify.specs.Parts.{FaultAt, IsThere, RootFault, RunAt, RunsOnAttributes, RunsOnOp, RunsOnTypes}

module _ {W : Dialect} (B : Behaviour W) (f : Forest context_ids W) (store : List (StoredType W)) (checks : Checks W) (e : Entity context_ids) where
  abbrev Run : Check W → Type 0
  Run = IsRun B f store checks (the_entity e)

  abbrev At : Entity context_ids → Check W → Type 0
  At = RunAt B f store checks

  carried : (x : Entity context_ids) (a : W.Attr) (c : Check W) → Carries B f store x a → IsRun B f store checks (the_attribute a) c → At x c
  carried (an_op o) a c h run = inr (inl ((h.0, a), h.1, run))
  carried (a_block b) a c h run = inl ((h.0, a), h.1, run)
  carried (a_region g) a c h run = absurd h

  typed : (d : Definer context_ids) (x : Definition context_ids W) (key : W.Key) (c : Check W) → In x (definitions_of f d) → HasKey B f store x.ty key → IsRun B f store checks (the_type key) c → At (definer_entity context_ids d) c
  typed (of_op o) x key c h has run = inr (inr (x, h, (key, has, run)))
  typed (of_block b) x key c h has run = inr (x, h, (key, has, run))

  -- a check that the root runs is one of an entity inside
  pub run-at : (c : Check W) → Run c → (x : Entity context_ids) × Inside f e x × At x c
  run-at (op_list n o) h = (an_op o, h.0, inl (refl, h.1))
  run-at (op_own o) h = (an_op o, h, inl refl)
  run-at (attr_list n a) h = (h.0.0, h.0.1, carried h.0.0 a (attr_list n a) h.0.2 (refl, h.1))
  run-at (attr_own a) h = (h.0, h.1, carried h.0 a (attr_own a) h.2 refl)
  run-at (type_list n key) h = (definer_entity context_ids h.0.0, h.0.2, typed h.0.0 h.0.1 key (type_list n key) h.0.3 h.0.4 (refl, h.1))
  run-at (type_own key) (inl h) = (definer_entity context_ids h.0, h.2, typed h.0 h.1 key (type_own key) h.3 h.4 (inl refl))
  run-at (type_own key) (inr h) = absurd h

  of-op : (o : ArenaIndex) (c : Check W) → Inside f e (an_op o) → RunsOnOp B f store checks o c → Run c
  of-op o (op_list n p) i h = (subst (λ q. Inside f e (an_op q)) h.0 i, subst (λ q. The (f.ops q) λ r. In n (checks.op_numbers r.kind)) h.0 h.1)
  of-op o (op_own p) i h = subst (λ q. Inside f e (an_op q)) h i
  of-op o (attr_list n a) i h = absurd h
  of-op o (attr_own a) i h = absurd h
  of-op o (type_list n key) i h = absurd h
  of-op o (type_own key) i h = absurd h

  of-attributes : (x : Entity context_ids) (pairs : List (Text × W.Attr)) (c : Check W) → Inside f e x → ((p : Text × W.Attr) → In p pairs → Carries B f store x p.1) → RunsOnAttributes B f store checks pairs c → Run c
  of-attributes x pairs (op_list n p) i here h = absurd h.2.0
  of-attributes x pairs (op_own p) i here h = absurd h.2
  of-attributes x pairs (attr_list n a) i here h = ((x, i, subst (Carries B f store x) h.2.0 (here h.0 h.1)), h.2.1)
  of-attributes x pairs (attr_own a) i here h = (x, i, subst (Carries B f store x) h.2 (here h.0 h.1))
  of-attributes x pairs (type_list n key) i here h = absurd h.2.0
  of-attributes x pairs (type_own key) i here h = absurd (elim h.2 [ inl k ↦ k | inr k ↦ k ])

  of-types : (d : Definer context_ids) (c : Check W) → Inside f e (definer_entity context_ids d) → RunsOnTypes B f store checks (definitions_of f d) c → Run c
  of-types d (op_list n p) i h = absurd h.2.2.0
  of-types d (op_own p) i h = absurd h.2.2
  of-types d (attr_list n a) i h = absurd h.2.2.0
  of-types d (attr_own a) i h = absurd h.2.2
  of-types d (type_list n key) i h = ((d, h.0, i, h.1, subst (HasKey B f store h.0.ty) h.2.2.0 h.2.1), h.2.2.1)
  of-types d (type_own key) i h = inl (d, h.0, i, h.1, elim h.2.2 [ inl k ↦ subst (HasKey B f store h.0.ty) k h.2.1 | inr k ↦ absurd k ])

  -- and a check of an entity inside is one that the root runs
  pub at-run : (x : Entity context_ids) (c : Check W) → Inside f e x → At x c → Run c
  at-run (an_op o) c i (inl h) = of-op o c i h
  at-run (an_op o) c i (inr (inl h)) = of-attributes (an_op o) (list_of (λ r. r.attributes) (f.ops o)) c i (λ p k. (p.0, k)) h
  at-run (an_op o) c i (inr (inr h)) = of-types (of_op o) c i h
  at-run (a_block b) c i (inl h) = of-attributes (a_block b) (list_of (λ r. r.attributes) (f.blocks b)) c i (λ p k. (p.0, k)) h
  at-run (a_block b) c i (inr h) = of-types (of_block b) c i h
  at-run (a_region g) c i h = absurd h

  -- a fault at the root is one of an entity inside
  pub fault-at : (fault : Fault) → FaultStands B f store checks (the_entity e) fault → (x : Entity context_ids) × Inside f e x × IsThere checks (FaultAt B f store x) (At x) fault
  fault-at (NoParent name) h = (a_block h.0, h.1, (h.2, h.3))
  fault-at (MissingTerminator name) h = (a_block h.0, h.1, (h.2, h.3))
  fault-at (EntryHasPred name) h = (a_block h.0, h.1, (h.2, h.3, h.4))
  fault-at OperandNotUseOfDef h = (a_block h.0, h.1, h.2)
  fault-at (TerminatorNotLast name) h = (an_op h.0, h.2, (h.3, (h.1, h.4, h.5)))
  fault-at (Verifier code) h = let x = run-at h.0 h.1 in (x.0, x.1, (h.0, x.2, h.2))

  -- and a fault of an entity inside stands at the root
  pub at-fault : (x : Entity context_ids) (fault : Fault) → Inside f e x → FaultAt B f store x fault → FaultStands B f store checks (the_entity e) fault
  at-fault (a_block b) (NoParent name) i h = (b, i, h.0, h.1)
  at-fault (a_block b) (MissingTerminator name) i h = (b, i, h.0, h.1)
  at-fault (a_block b) (EntryHasPred name) i h = (b, i, h.0, h.1, h.2)
  at-fault (a_block b) OperandNotUseOfDef i h = (b, i, h)
  at-fault (a_block b) (TerminatorNotLast name) i h = absurd h
  at-fault (a_block b) (Verifier code) i h = absurd h
  at-fault (an_op o) (NoParent name) i h = absurd h
  at-fault (an_op o) (MissingTerminator name) i h = absurd h
  at-fault (an_op o) (EntryHasPred name) i h = absurd h
  at-fault (an_op o) OperandNotUseOfDef i h = absurd h
  at-fault (an_op o) (TerminatorNotLast name) i h = (o, h.1.0, i, h.0, h.1.1, h.1.2)
  at-fault (an_op o) (Verifier code) i h = absurd h
  at-fault (a_region g) fault i h = absurd h

  -- and so it stands at the root, where it is none of a check
  pub at-root : (x : Entity context_ids) (fault : Fault) → Inside f e x → FaultAt B f store x fault → RootFault B f store checks (the_entity e) fault
  at-root x (NoParent name) i h = at-fault x (NoParent name) i h
  at-root x (MissingTerminator name) i h = at-fault x (MissingTerminator name) i h
  at-root x (TerminatorNotLast name) i h = at-fault x (TerminatorNotLast name) i h
  at-root x (EntryHasPred name) i h = at-fault x (EntryHasPred name) i h
  at-root x OperandNotUseOfDef i h = at-fault x OperandNotUseOfDef i h
  at-root (an_op o) (Verifier code) i h = h
  at-root (a_block b) (Verifier code) i h = h
  at-root (a_region g) (Verifier code) i h = h

  -- where nothing is there at any entity inside, nothing is at the root
  pub none-inside : ((x : Entity context_ids) → Inside f e x → (fault : Fault) → IsThere checks (FaultAt B f store x) (At x) fault → ⊥) → (fault : Fault) → IsThere checks (RootFault B f store checks (the_entity e)) Run fault → ⊥
  none-inside each fault h = let at = fault-at fault (there-stands B f store checks (the_entity e) fault h) in each at.0 at.1 fault at.2
