-- What alike operations have in common, told of their records.
use mathlib.Core.Path.{◌≡◌, refl, sym, ap, ◌∙◌, subst}
use Rattle.std.proofs.Common.{Bool, true, false, Some, List}
use Rattle.std.specs.Prelude.{◌↔◌, IsTrue}
use Rattle.ir_model.specs.declared.ids.ArenaIndex.{ArenaIndex}
use Rattle.ir_model.specs.ContextIds.{context_ids}
use Rattle.ir_model.specs.Forest.{Dialect, Behaviour, Forest, OpRecord}
use Rattle.ir_model_passes.specs.Meaning.{SameAttributes, IsPlain, named_values, result_types}
use Rattle.ir_model_passes.specs.Merging.{Alike}
use Rattle.ir_run_passes.specs.KeptOps.{IsPlainOp}

module _ {W : Dialect} (f : Forest context_ids W) where
  one_record : {o : ArenaIndex} (r q : OpRecord context_ids W) → f.ops o ≡ Some r → f.ops o ≡ Some q → r ≡ q
  one_record r q e h = some_record (sym e ∙ h)
    where
      some_record : Some r ≡ Some q → r ≡ q
      some_record s = cc

  pub plain_of : (B : Behaviour W) (o : ArenaIndex) (r : OpRecord context_ids W) → f.ops o ≡ Some r → IsPlainOp B f o → IsPlain B r
  plain_of B o r e p = subst (IsPlain B) (one_record p.of r p.found e) p.plain

  module _ (B : Behaviour W) (same : SameAttributes W) (o p : ArenaIndex) (r q : OpRecord context_ids W) (one : f.ops o ≡ Some r) (other : f.ops p ≡ Some q) where
    module _ (alike : Alike B same f o p) where
      is_one : alike.one ≡ r
      is_one = one_record alike.one r alike.one_is one

      is_other : alike.other ≡ q
      is_other = one_record alike.other q alike.other_is other

      kinds_are : r.kind ≡ q.kind
      kinds_are = sym (ap (λ (x : OpRecord context_ids W). x.kind) is_one) ∙ alike.kinds ∙ ap (λ (x : OpRecord context_ids W). x.kind) is_other

      operands_are : named_values r ≡ named_values q
      operands_are = sym (ap named_values is_one) ∙ alike.operands ∙ ap named_values is_other

      types_are : result_types r ≡ result_types q
      types_are = sym (ap result_types is_one) ∙ alike.types ∙ ap result_types is_other

      attributes_are : IsTrue (same r.attributes q.attributes)
      attributes_are = subst (λ (x : OpRecord context_ids W). IsTrue (same r.attributes x.attributes)) is_other (subst (λ (x : OpRecord context_ids W). IsTrue (same x.attributes alike.other.attributes)) is_one alike.attributes)

    pub other_kinds : (r.kind ≡ q.kind → ⊥) → IsTrue false ↔ Alike B same f o p
    other_kinds apart = (λ t. absurd (let z : false ≡ true = t in cc), λ alike. absurd (apart (kinds_are alike)))

    pub other_operands : (b : Bool) → IsTrue b ↔ (named_values r ≡ named_values q) → b ≡ false → IsTrue false ↔ Alike B same f o p
    other_operands b told e = (λ t. absurd (let z : false ≡ true = t in cc), λ alike. sym e ∙ told.1 (operands_are alike))

    pub other_types : (b : Bool) → IsTrue b ↔ (result_types r ≡ result_types q) → b ≡ false → IsTrue false ↔ Alike B same f o p
    other_types b told e = (λ t. absurd (let z : false ≡ true = t in cc), λ alike. sym e ∙ told.1 (types_are alike))

    pub by_attributes : IsPlain B r → IsPlain B q → r.kind ≡ q.kind → named_values r ≡ named_values q → result_types r ≡ result_types q → (b : Bool) → b ≡ same r.attributes q.attributes → IsTrue b ↔ Alike B same f o p
    by_attributes one_plain other_plain kinds operands types b told = (
      λ t. record {
        one = r;
        other = q;
        one_is = one;
        other_is = other;
        one_plain = one_plain;
        other_plain = other_plain;
        kinds = kinds;
        attributes = sym told ∙ t;
        operands = operands;
        types = types;
      },
      λ alike. told ∙ attributes_are alike,
    )
