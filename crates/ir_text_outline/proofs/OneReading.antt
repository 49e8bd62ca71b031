-- What names mean in a text is one, where none is wrong.
use Rattle.std.proofs.Common.{◌≡◌, ◌∙◌, ℕ, ◌<◌, List, length, Option, Some, None, slice_index_or, inl, inr, refl, sym, ap, subst}
use Rattle.std.proofs.lemmas.List.{ext_get_or}
use Rattle.ir_text_tree.specs.declared.row.Row.{Row}
use Rattle.ir_text_names.specs.declared.fault.Wrong.TheVariants as wrongs
use Rattle.ir_text_names.specs.declared.resolving.Names.{Names}
use Rattle.ir_text_names.specs.Blocks.{IsBlockAgain, IsBlockNamed, NamesBlock}
use Rattle.ir_text_names.specs.Values.{IsValueAgain, IsValueNamed, NamesValue}
use Rattle.ir_text_outline.specs.Reading.{AreNamed}

-- what is named is one, where no two are
one_named : (Is : Option ℕ → Type 0) (Names : ℕ → Type 0) → (Is None → (l : ℕ) → Names l → ⊥) → ((l : ℕ) → Is (Some l) → Names l) → ((l m : ℕ) → Names l → Names m → l ≡ m) → (x y : Option ℕ) → Is x → Is y → x ≡ y
one_named Is Names none some one None None p q = refl
one_named Is Names none some one None (Some m) p q = absurd (none p m (some m q))
one_named Is Names none some one (Some l) None p q = absurd (none q l (some l p))
one_named Is Names none some one (Some l) (Some m) p q = ap Some (one l m (some l p) (some m q))

-- and so are tables of it
one_table : (n : ℕ) (Is : ℕ → Option ℕ → Type 0) → ((s : ℕ) (x y : Option ℕ) → Is s x → Is s y → x ≡ y) → (xs ys : List (Option ℕ)) → length xs ≡ n → length ys ≡ n → ((s : ℕ) → s < n → Is s (slice_index_or xs s None)) → ((s : ℕ) → s < n → Is s (slice_index_or ys s None)) → xs ≡ ys
one_table n Is one xs ys long also all each =
    ext_get_or None xs ys (long ∙ sym also) (λ s less. let within : s < n = subst (λ k. s < k) long less in one s _ _ (all s within) (each s within))

module _ (text : List ℕ) (rows : List Row) (names others : Names) (a : AreNamed text rows names) (b : AreNamed text rows others) where
  pub one_block_table : ((s l m : ℕ) → ((k : ℕ) → k < length rows → IsBlockAgain text rows k → ⊥) → NamesBlock text rows s l → NamesBlock text rows s m → l ≡ m) → names.blocks ≡ others.blocks
  one_block_table one = one_table (length rows) (IsBlockNamed text rows) (λ s. one_named (IsBlockNamed text rows s) (NamesBlock text rows s) (λ h. h) (λ l h. h) (λ l m. one s l m clear)) names.blocks others.blocks a.blocks.0 b.blocks.0 a.blocks.1 b.blocks.1
    where
      clear : (k : ℕ) → k < length rows → IsBlockAgain text rows k → ⊥
      clear k less again = a.right k less wrongs.BlockTwice (inl (inl again))

  pub one_value_table : ((u d e : ℕ) → ((k : ℕ) → k < length rows → IsValueAgain text rows k → ⊥) → NamesValue text rows u d → NamesValue text rows u e → d ≡ e) → names.values ≡ others.values
  one_value_table one = one_table (length rows) (IsValueNamed text rows) (λ s. one_named (IsValueNamed text rows s) (NamesValue text rows s) (λ h. h) (λ l h. h) (λ l m. one s l m clear)) names.values others.values a.values.0 b.values.0 a.values.1 b.values.1
    where
      clear : (k : ℕ) → k < length rows → IsValueAgain text rows k → ⊥
      clear k less again = a.right k less wrongs.ValueTwice (inr (inr (inl (inl again))))
