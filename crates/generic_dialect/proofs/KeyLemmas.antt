-- Keys and their identifiers: the way there and back.
use Rattle.std.proofs.Common.{◌≡◌, ◌⊎◌, ℕ, ◌<◌, ◌≤◌, Bool, true, false, not, cond, List, [], ◌∷◌, length, get_or, drop, Result, Ok, Err, is_ok, bytes_eq, IsAscii, IsUtf8, codes, refl, sym, ap, ◌∙◌, inl, inr, ⊎_elim, true≢false, arith}
use Rattle.std.specs.List.{list_all}
use Rattle.std.proofs.lemmas.Bool.{and_parts, and_from, cases_lt}
use Rattle.std.proofs.lemmas.Grind.{common_steps}
use Rattle.std.proofs.lemmas.List.{get_or_past}
use Rattle.std.proofs.lemmas.List.Sums.{AllPass-from_list_all, list_all-from_AllPass}
use Rattle.std.proofs.lemmas.Slice.Eq.{bytes_eq-Decides}
use Rattle.std.proofs.lemmas.Str.{IsUtf8-from_ascii}
use Rattle.hex.specs.Hex.{IsBytes, encode_lower, decode_of, is_hex_digit}
use Rattle.hex.specs.declared.error.FromHexError.{FromHexError}
use Rattle.hex.specs.declared.error.FromHexError.TheVariants as variants
use Rattle.hex.proofs.HexLemmas.{decode_of-encode_lower, decode_of-ok}
use Rattle.hex.proofs.OnLiterals.{hex_on_literals}
use Rattle.ir_model.specs.Identifier.{IsIdentifier, is_identifier, can_start, can_continue}
use Rattle.generic_dialect.specs.Keys.{HasNoKey, is_marked, is_plain, key_name}

-- what begins with `__` doesn't stand for itself
pub marked_not_plain : (more : List ℕ) → is_plain (95 ∷ 95 ∷ more) ≡ true → ⊥
marked_not_plain more e = true≢false (sym (and_parts (is_identifier (95 ∷ 95 ∷ more)) (not (is_marked (95 ∷ 95 ∷ more))) e).1)

-- the digits behind `__` give back the key
pub forth_back : (key digits : List ℕ) → IsBytes key → key_name key ≡ 95 ∷ 95 ∷ digits → decode_of digits ≡ Ok key
forth_back key digits bytes e = by (is_plain key) refl e
  where
    by : (b : Bool) → is_plain key ≡ b → cond b key (95 ∷ 95 ∷ encode_lower key) ≡ 95 ∷ 95 ∷ digits → decode_of digits ≡ Ok key
    by true plain same = absurd (marked_not_plain digits (ap is_plain (sym same) ∙ plain))
    by false plain same = ap decode_of (sym (ap (drop 2) same)) ∙ decode_of-encode_lower key bytes

abbrev ok_bytes : List ℕ → Result (List ℕ) FromHexError
ok_bytes bytes = Ok bytes

pub same_ok : (a b : List ℕ) → ok_bytes a ≡ ok_bytes b → a ≡ b
same_ok a b e = cc

-- no two keys have one identifier
pub keys_apart : (a b : List ℕ) → IsBytes a → IsBytes b → key_name a ≡ key_name b → a ≡ b
keys_apart a b p q e = by (is_plain a) refl (is_plain b) refl e
  where
    by : (s : Bool) → is_plain a ≡ s → (t : Bool) → is_plain b ≡ t → cond s a (95 ∷ 95 ∷ encode_lower a) ≡ cond t b (95 ∷ 95 ∷ encode_lower b) → a ≡ b
    by true f true g h = h
    by true f false g h = absurd (marked_not_plain (encode_lower b) (ap is_plain (sym h) ∙ f))
    by false f true g h = absurd (marked_not_plain (encode_lower a) (ap is_plain h ∙ g))
    by false f false g h = same_ok a b (sym (decode_of-encode_lower a p) ∙ ap decode_of (ap (drop 2) h) ∙ decode_of-encode_lower b q)

-- `p` is no digit
pub properties_apart : HasNoKey (codes "__properties")
unfolding hex_on_literals
properties_apart key bytes e =
    let back : decode_of (codes "properties") ≡ ok_bytes key = forth_back key (codes "properties") bytes e in
    true≢false (sym (ap is_ok back))

digit_continues : (c : ℕ) → is_hex_digit c ≡ true → can_continue c ≡ true
digit_continues c digit = grind (arith, common_steps)

digits_continue : (key : List ℕ) → IsBytes key → list_all can_continue (encode_lower key) ≡ true
digits_continue key bytes =
    let digits = (decode_of-ok (encode_lower key) key (decode_of-encode_lower key bytes)).1 in
    list_all-from_AllPass can_continue (encode_lower key) (λ k d lt. digit_continues (get_or (encode_lower key) k d) (digits k d lt))

-- `__` and the digits are an identifier
pub marked_identifier : (key : List ℕ) → IsBytes key → IsIdentifier (95 ∷ 95 ∷ encode_lower key)
marked_identifier key bytes = digits_continue key bytes

-- a key that stands for itself is an identifier
pub plain_identifier : (key : List ℕ) → is_plain key ≡ true → IsIdentifier key
plain_identifier key plain = (and_parts (is_identifier key) (not (is_marked key)) plain).0

continues_ascii : (b : ℕ) → can_continue b ≡ true → b < 128
continues_ascii b continues = grind (arith, common_steps)

start_continues : (b : ℕ) → can_start b ≡ true → can_continue b ≡ true
start_continues b starts = grind (arith, common_steps)

identifier_continues : (key : List ℕ) → IsIdentifier key → list_all can_continue key ≡ true
identifier_continues [] valid = absurd (true≢false (sym valid))
identifier_continues (b ∷ bs) valid =
    let both = and_parts (can_start b) (list_all can_continue bs) valid in
    and_from (can_continue b) (list_all can_continue bs) (start_continues b both.0) both.1

identifier_ascii : (key : List ℕ) → IsIdentifier key → IsAscii key
identifier_ascii key valid i = by (cases_lt i (length key))
  where
    by : (i < length key) ⊎ (length key ≤ i) → get_or key i 0 < 128
    by (inl lt) = continues_ascii (get_or key i 0) (AllPass-from_list_all can_continue key (identifier_continues key valid) i 0 lt)
    by (inr le) = let none = get_or_past key i 0 le in omega (arith, none)

-- and so it is a text
pub plain_text : (key : List ℕ) → is_plain key ≡ true → IsUtf8 key
plain_text key plain = IsUtf8-from_ascii key (identifier_ascii key (plain_identifier key plain))

-- where a text isn't UTF-8, it doesn't stand for itself
pub no_text : (key : List ℕ) → (IsUtf8 key → ⊥) → is_plain key ≡ false
no_text key other = by (is_plain key) refl
  where
    by : (b : Bool) → is_plain key ≡ b → is_plain key ≡ false
    by true plain = absurd (other (plain_text key plain))
    by false plain = plain

-- an identifier that doesn't begin with `__` stands for itself
pub unmarked_plain : (key : List ℕ) → IsIdentifier key → is_marked key ≡ false → key_name key ≡ key
unmarked_plain key valid unmarked =
    let plain : is_plain key ≡ true = and_from (is_identifier key) (not (is_marked key)) valid (ap not unmarked) in
    ap (λ (b : Bool). cond b key (95 ∷ 95 ∷ encode_lower key)) plain

-- where the digits aren't those of bytes, no key has the identifier
pub none_decoded : (digits : List ℕ) → is_ok (decode_of digits) ≡ false → HasNoKey (95 ∷ 95 ∷ digits)
none_decoded digits none key bytes e = true≢false (sym (ap is_ok (forth_back key digits bytes e)) ∙ none)

-- nor where those of the bytes aren't these
pub other_decoded : (digits found : List ℕ) → decode_of digits ≡ ok_bytes found → (key_name found ≡ 95 ∷ 95 ∷ digits → ⊥) → HasNoKey (95 ∷ 95 ∷ digits)
other_decoded digits found decoded other key bytes e =
    let same : found ≡ key = same_ok found key (sym decoded ∙ forth_back key digits bytes e) in
    other (ap key_name same ∙ e)

-- how a refusal to decode is told
pub not_decoded : (digits : List ℕ) (error : FromHexError) → (error ≡ variants.OutOfMemory → ⊥) → (error ≡ variants.OutOfMemory) ⊎ (decode_of digits ≡ Err error) → is_ok (decode_of digits) ≡ false
not_decoded digits error other told = ⊎_elim (λ (e : error ≡ variants.OutOfMemory). absurd (other e)) (λ (e : decode_of digits ≡ Err error). ap is_ok e) told

pub same_text : (a b : List ℕ) → bytes_eq a b ≡ true → a ≡ b
same_text a b e = (bytes_eq-Decides a b).0 e

pub other_text : (a b : List ℕ) → bytes_eq a b ≡ false → a ≡ b → ⊥
other_text a b e f = true≢false (sym ((bytes_eq-Decides a b).1 f) ∙ e)
