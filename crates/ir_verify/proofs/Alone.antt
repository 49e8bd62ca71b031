-- What an entity alone is found to have, from what its parts are.
use Rattle.std.proofs.Common.{◌≡◌, ◌∙◌, ◌<◌, ◌⊎◌, ℕ, List, Result, Ok, Err, map, refl, sym, ap, subst, inl, inr}
use Rattle.ir_model.specs.ContextIds.{context_ids}
use Rattle.ir_model.specs.Edits.{StoredType}
use Rattle.ir_model.specs.Faults.{Fault, Verifier, Check, Checks}
use Rattle.ir_model.specs.Forest.{Dialect, Definition as PlainDefinition}
use Rattle.ir_model.specs.Nesting.{In, WellFormed, definitions_of, definition_types_of}
use Rattle.ir_model.specs.VerifyAnswers.{fault_of}
use Rattle.ir_model.proofs.Nests.{In-map}
use Rattle.ir_core_records.specs.declared.record.Definer.{Definer}
use Rattle.ir_core_records.specs.declared.record.Definition.{Definition}
use Rattle.ir_core_records.specs.declared.records.Records.{Records}
use Rattle.ir_core_records.specs.Meaning.{closed, definer_of, definition_of, forest_in}
use Rattle.ir_core_records.specs.Meant.{definitions-meant}
use Rattle.ir_core_records.specs.Table.{definitions_at}
use Rattle.ir_verify.specs.declared.error.VerifyErr.{VerifyErr}
use Rattle.ir_verify.specs.Parts.{Finds, IsThere, NoCheck, NoFault, Tells}
use Rattle.ir_verify.specs.Told.{told}
use Rattle.ir_verify.proofs.Pieces.{ends-with, from-tells, none-both, tell-more, there-more}

module _ {W : Dialect} (checks : Checks W) (F : Fault → Type 0) where
  -- one more part without faults of its own passed
  pub and-passed : (R S : Check W → Type 0) → ((x : Fault) → IsThere checks F R x → ⊥) → ((x : Fault) → IsThere checks NoFault S x → ⊥) → (x : Fault) → IsThere checks F (λ c. R c ⊎ S c) x → ⊥
  and-passed R S first second = none-both checks F F NoFault (λ c. R c ⊎ S c) R S (λ x h. inl h) (λ c k. k) first second

  -- the last part gives the answer
  pub and-last : (R S : Check W → Type 0) → ((x : Fault) → IsThere checks F R x → ⊥) → (r : Result Unit VerifyErr) → Finds checks NoFault S r → Finds checks F (λ c. R c ⊎ S c) r
  and-last R S first r h = ends-with checks F F NoFault (λ c. R c ⊎ S c) R S (λ x n. absurd n) (λ c k. inr k) (λ x h. inl h) (λ c k. k) first r h

  -- by the same checks, put otherwise
  pub put-as : (R S : Check W → Type 0) → ((c : Check W) → R c → S c) → ((c : Check W) → S c → R c) → (r : Result Unit VerifyErr) → Finds checks F R r → Finds checks F S r
  put-as R S to from (Ok u) h = λ x k. h x (there-more checks F F S R (λ y n. n) from x k)
  put-as R S to from (Err e) h = tell-more checks F F R S (λ y n. n) to (fault_of (told e)) h

module _ {D A K B S X L : Type 0} (t : Records D A K B S X L) (d : Definer) (xs : List Definition) (is : definitions_at t d ≡ xs) where
  -- the results or arguments in the record are those of the forest
  pub definitions-are : definitions_of (forest_in t) (definer_of d) ≡ map (definition_of {A = A} {K = K} {B = B} {S = S} {X = X} {L = L}) xs
  definitions-are = definitions-meant t d ∙ ap (map (definition_of {A = A} {K = K} {B = B} {S = S} {X = X} {L = L})) is

  -- their types are known
  pub types-known : (keys : ℕ) → WellFormed (forest_in t) keys → (x : Definition) → In x xs → x.ty < keys
  types-known keys formed x h =
      let plain = definition_of {A = A} {K = K} {B = B} {S = S} {X = X} {L = L} in
      let there : In (plain x) (definitions_of (forest_in t) (definer_of d)) = subst (In (plain x)) (sym definitions-are) (In-map plain x xs h) in
      formed.known (definer_of d) x.ty (In-map (λ (y : PlainDefinition context_ids (closed A K B S X L)). y.ty) (plain x) (definitions_of (forest_in t) (definer_of d)) there)
