-- Equality of attribute dictionaries is an equivalence, and equal dictionaries hash equally.
use Rattle.std.specs.Prelude.{◌≡◌, ℕ, Bool, true, false, cond, List, [], ◌∷◌, ◌++◌, map, Option, Some, None}
use Rattle.std.proofs.Common.{◌∙◌, sym, refl, ap, true≢false}
use Rattle.std.specs.Option.{option_map, option_eq}
use Rattle.std.specs.FinMap.{entries, find, get-from_entries, get-entries, same_map, nat_cmp-IsAntisymmetric, slice_cmp-IsAntisymmetric}
use Rattle.std.specs.Hash as fed
use Rattle.std.specs.Hash.{HashWrites}
use Rattle.std.specs.Map.{lookup}
use Rattle.std.specs.declared.cmp.Ordering.TheVariants.{Equal}
use Rattle.std.specs.Cmp.{IsEquivalence, IsTotalOrder, IsPartialEquivalence, both_ways}
use Rattle.std.specs.Cmp.Lexicographic.{nat_list_eq_equiv, nat_list_cmp_total, texts_ties}
use Rattle.std.specs.HashMap.{HashMap}
use Rattle.std.specs.HashMap.Eq.{get_from_hash_map_eq, hash_map_eq_symm, hash_map_eq_trans, hash_map_eq_refl}
use Rattle.indexmap.specs.Layout.{hash_map}
use Rattle.ir_model.specs.Stores.{attribute_at}
use Rattle.ir_base_dialects.specs.Attributes.{same_key, key_order, by_key, dict_input, same_pairs}

module _ {A : Type 0} (same : A → A → Bool) (laws : IsEquivalence same) where
  -- a list of pairs as a map
  abbrev as_map : List (List ℕ × A) → HashMap (List ℕ) A (Unit {0})
  as_map pairs = hash_map pairs tt 0

  trans : (x y z : A) → same x y ≡ true → same y z ≡ true → same x z ≡ true
  trans x y z e f = laws.congr x y z e ∙ f

  pub same_pairs-laws : IsPartialEquivalence (same_pairs same)
  same_pairs-laws = record {
    symm = λ d e. hash_map_eq_symm same_key same laws.symm (as_map d) (as_map e);
    trans = λ d e f. hash_map_eq_trans same_key same nat_list_eq_equiv trans (as_map d) (as_map e) (as_map f);
  }

  pub same_pairs-equivalence : IsEquivalence (same_pairs same)
  same_pairs-equivalence = record {
    refl = λ d. hash_map_eq_refl same_key same laws.refl (as_map d);
    symm = same_pairs-laws.symm;
    congr = λ d e f same_de. both_ways _ _ (λ df. same_pairs-laws.trans e d f (sym (same_pairs-laws.symm d e) ∙ same_de) df) (same_pairs-laws.trans d e f same_de);
  }

-- the order of keys is total, and ties no two texts
pub key_total : IsTotalOrder key_order
key_total = nat_list_cmp_total

pub same_text : (x y : List ℕ) → key_order x y ≡ Equal → x ≡ y
same_text = slice_cmp-IsAntisymmetric nat_cmp-IsAntisymmetric

-- what is fed of a key's attribute, found among the pairs by rising key
module _ {A : Type 0} (input : A → HashWrites) where
  pub find-map : (q : List ℕ) (es : List (List ℕ × A)) → find key_order q (map (λ p. (p.0, input p.1)) es) ≡ option_map input (attribute_at es q)
  find-map q [] = refl
  find-map q (e ∷ es) = ap (λ b. cond b (Some (input e.1)) (find key_order q (map (λ p. (p.0, input p.1)) es))) (sym (texts_ties q e.0)) ∙ ap (cond (same_key q e.0) (Some (input e.1))) (find-map q es) ∙ out (same_key q e.0) (lookup (same_key q) es)
    where
      out : (b : Bool) (o : Option A) → cond b (Some (input e.1)) (option_map input o) ≡ option_map input (cond b (Some e.1) o)
      out true o = refl
      out false o = refl

  pub find-by_key : (es : List (List ℕ × A)) (q : List ℕ) → find key_order q (by_key input es) ≡ option_map input (attribute_at es q)
  find-by_key es q = sym (get-entries _ q) ∙ get-from_entries key_total (map (λ p. (p.0, input p.1)) es) q ∙ find-map q es

  -- equal dictionaries have one list of pairs by rising key
  pub by_key-equal : (same : A → A → Bool) → ((x y : A) → same x y ≡ true → input x ≡ input y) → (d e : List (List ℕ × A)) → same_pairs same d e ≡ true → dict_input input d ≡ dict_input input e
  by_key-equal same respects d e h =
      ap (λ m. fed.slice (λ p. fed.str p.0 ++ p.1) (entries m))
      (same_map key_total same_text _ _ (λ q.
      get-from_entries key_total (map (λ p. (p.0, input p.1)) d) q ∙ find-map q d ∙ alike (attribute_at d q) (attribute_at e q) (get_from_hash_map_eq same_key same nat_list_eq_equiv (hash_map d (tt {0}) 0) (hash_map e (tt {0}) 0) h q)
      ∙ sym (get-from_entries key_total (map (λ p. (p.0, input p.1)) e) q ∙ find-map q e)))
    where
      alike : (x y : Option A) → option_eq same x y ≡ true → option_map input x ≡ option_map input y
      alike None None g = refl
      alike None (Some y) g = absurd (true≢false (sym g))
      alike (Some x) None g = absurd (true≢false (sym g))
      alike (Some x) (Some y) g = ap Some (respects x y g)
