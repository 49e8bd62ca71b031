-- In words of the dialect what is written alike is one.
use Rattle.std.proofs.Common.{◌≡◌, ◌≢◌, ◌∙◌, refl, sym, ap, subst, ℕ, true, false, List, [], Option, Some, None, inl, inr}
use Rattle.std.specs.Prelude.{slice_get}
use Rattle.std.specs.Option.{option_map}
use Rattle.std.proofs.lemmas.Bool.{false≢true, cases_order, eq-eqb}
use Rattle.std.proofs.lemmas.Bool.Decides.{Decides-eqb}
use Rattle.std.proofs.lemmas.Slice.Eq.{slice_eq-Decides}
use Rattle.ir_model.specs.Edits.{StoredType}
use Rattle.ir_core_queries.specs.Calls.{TypesAreExact}
use Rattle.generic_dialect.specs.declared.generic.GenericAttr.{GenericAttr}
use Rattle.generic_dialect.specs.declared.generic.GenericAttr.TheVariants as attr
use Rattle.generic_dialect.specs.declared.generic.GenericSaved.{GenericSaved}
use Rattle.generic_dialect.specs.declared.generic.GenericType.{GenericType}
use Rattle.generic_dialect.specs.declared.generic.KeptAttr.{KeptAttr}
use Rattle.generic_dialect.specs.declared.texts.TextId.{TextId}
use Rattle.generic_dialect.specs.contracts.generic.GenericTypePartialEq.TheImpl.{eq-value as type-value}
use Rattle.generic_dialect.specs.contracts.generic.GenericSavedPartialEq.TheImpl.{eq-value as saved-value}
use Rattle.generic_dialect.specs.Keys.{the_key}
use Rattle.generic_text.specs.GenericTexts.{bytes_of, properties_of, text_at, type_text}
use Rattle.generic_text.specs.GenericWords.{entry_of, value_of}
use Rattle.ir_text_described.specs.Words.{Words}
use Rattle.ir_opt_run.specs.GenericBehaviour.{TextsApart, generic, generic_behaviour}
use Rattle.ir_opt_run.specs.WrittenAlike.{WrittenAlikeIsOne}

-- ## Texts

one_text : (x y : GenericSaved) → x.0.items ≡ y.0.items → saved-value.it x y ≡ false → ⊥
one_text x y e differ = false≢true (sym differ ∙ (slice_eq-Decides Decides-eqb x.0.items y.0.items _ refl).1 e)

same_text : (saved : List GenericSaved) → TextsApart saved → (i j : ℕ) (a b : Option GenericSaved) → slice_get saved i ≡ a → slice_get saved j ≡ b → bytes_of a ≡ bytes_of b → bytes_of a ≢ [] → i ≡ j
same_text saved apart i j None b at there e some = absurd (some refl)
same_text saved apart i j (Some x) None at there e some = absurd (some e)
same_text saved apart i j (Some x) (Some y) at there e some = elim (cases_order i j) [
  | inl one ↦ one
  | inr two ↦ elim two [
    | inl before ↦ absurd (one_text x y e (apart i j x y before at there))
    | inr behind ↦ absurd (one_text y x (sym e) (apart j i y x behind there at))
  ]
]

-- texts that are alike and not empty are saved at one place
one_place : (saved : List GenericSaved) → TextsApart saved → (i j : TextId) → text_at saved i.0 ≡ text_at saved j.0 → text_at saved i.0 ≢ [] → i ≡ j
one_place saved apart i j e some = same_id i j (same_text saved apart i.0 j.0 (slice_get saved i.0) (slice_get saved j.0) refl refl e some)
  where
    same_id : (x y : TextId) → x.0 ≡ y.0 → x ≡ y
    same_id x y p = ap (λ n. record { 0 = n }) p

-- ## Types

same_key : (a b : GenericType) → a.0 ≡ b.0 → type-value.it a b ≡ true
same_key a b e = eq-eqb a.0.0 b.0.0 (ap (λ (i : TextId). i.0) e)

one_type : (saved : List GenericSaved) → TextsApart saved → (types : List (StoredType generic)) → TypesAreExact generic_behaviour types → (p q : ℕ) (a b : Option (StoredType generic)) → slice_get types p ≡ a → slice_get types q ≡ b
    → type_text saved (option_map (λ t. t.key) a) ≢ [] → type_text saved (option_map (λ t. t.key) a) ≡ type_text saved (option_map (λ t. t.key) b) → p ≡ q
one_type saved apart types exact p q None b at there some e = absurd (some refl)
one_type saved apart types exact p q (Some s) None at there some e = absurd (some e)
one_type saved apart types exact p q (Some s) (Some t) at there some e = (exact.exact p q s t at there).0 (same_key s.key t.key (one_place saved apart s.key.0 t.key.0 e some))

-- ## Attributes

kept : (a b : KeptAttr) → a.0 ≡ b.0 → a ≡ b
kept a b e = ap (λ x. record { 0 = x }) e

one_value : (saved : List GenericSaved) → TextsApart saved → (a b : GenericAttr) → value_of saved a ≡ value_of saved b → value_of saved a ≢ Some [] → a ≡ b
one_value saved apart attr.Unit attr.Unit e some = refl
one_value saved apart attr.Unit (attr.Text j) e some = absurd cc
one_value saved apart (attr.Text i) attr.Unit e some = absurd cc
one_value saved apart (attr.Text i) (attr.Text j) e some = (let t : text_at saved i.0 ≡ text_at saved j.0 = cc in ap attr.Text (one_place saved apart i j t (λ z. some (ap Some z))))

its_value : (k key : List ℕ) (x y : Option (List ℕ)) → ◌≡◌ {A = Option (List ℕ × Option (List ℕ))} (Some (k, x)) (Some (key, y)) → x ≡ y
its_value k key x y e = ap (λ (o : Option (List ℕ × Option (List ℕ))). second x o) e
  where
    second : Option (List ℕ) → Option (List ℕ × Option (List ℕ)) → Option (List ℕ)
    second z None = z
    second z (Some p) = p.1

one_attribute : (saved : List GenericSaved) → TextsApart saved → (name : Option (List ℕ)) (a b : KeptAttr) (key : List ℕ) (value : Option (List ℕ)) → entry_of saved name a.0 ≡ Some (key, value) → entry_of saved name b.0 ≡ Some (key, value) → value ≢ Some [] → a ≡ b
one_attribute saved apart None a b key value e f some = absurd cc
one_attribute saved apart (Some k) a b key value e f some =
    let here = its_value k key (value_of saved a.0) value e in
    let there = its_value k key (value_of saved b.0) value f in
    kept a b (one_value saved apart a.0 b.0 (here ∙ sym there) (λ z. some (sym here ∙ z)))

one_property : (saved : List GenericSaved) → TextsApart saved → (a b : Option GenericAttr) (text : List ℕ) → properties_of saved a ≡ Some text → properties_of saved b ≡ Some text → text ≢ [] → a ≡ b
one_property saved apart None b text e f some = absurd cc
one_property saved apart (Some attr.Unit) b text e f some = absurd cc
one_property saved apart (Some (attr.Text i)) None text e f some = absurd cc
one_property saved apart (Some (attr.Text i)) (Some attr.Unit) text e f some = absurd cc
one_property saved apart (Some (attr.Text i)) (Some (attr.Text j)) text e f some =
    let here : text_at saved i.0 ≡ text = cc in
    let there : text_at saved j.0 ≡ text = cc in
    ap (λ id. Some (attr.Text id)) (one_place saved apart i j (here ∙ sym there) (λ z. some (sym here ∙ z)))

-- ## The laws

pub written_alike : WrittenAlikeIsOne
written_alike words are = record {
  types = λ p q some e. one_type are.saved are.apart are.types are.exact p q (slice_get are.types p) (slice_get are.types q) refl refl
      (subst (λ (w : Words generic). w.type_text p ≢ []) are.are some) (subst (λ (w : Words generic). w.type_text p ≡ w.type_text q) are.are e);
  attributes = λ name a b key value e f some. one_attribute are.saved are.apart (the_key name) a b key value
      (subst (λ (w : Words generic). w.entry name a ≡ Some (key, value)) are.are e) (subst (λ (w : Words generic). w.entry name b ≡ Some (key, value)) are.are f) some;
  properties = λ xs ys text e f some. one_property are.saved are.apart _ _ text
      (subst (λ (w : Words generic). w.properties xs ≡ Some text) are.are e) (subst (λ (w : Words generic). w.properties ys ≡ Some text) are.are f) some;
}
