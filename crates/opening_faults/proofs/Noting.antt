-- Maps of merges with text keys.
use Rattle.std.specs.Prelude.{◌≡◌, ℕ, ℤ, true, false, cond, ◌&&◌, ◌||◌, List, Option, Some}
use Rattle.std.specs.Prelude.{bytes_eq, int_lt, refl}
use Rattle.std.specs.Prelude.{String}
use Rattle.std.proofs.Common.{sym, ap, ◌∙◌}
use Rattle.std.specs.Option.{option_map_or}
use Rattle.std.specs.Ordering.{nat_cmp}
use Rattle.std.specs.Cmp.Lexicographic.{slice_cmp}
use Rattle.std.specs.String.{string_bytes, string_cmp}
use Rattle.std.specs.BTreeMap as tree
use Rattle.std.specs.BTreeMap.{BTreeMap, get_by_text}
use Rattle.std.proofs.lemmas.Map.Text.{btree_map_updates_text}
use Rattle.std.proofs.lemmas.Slice.Eq.{bytes_eq-Decides}
use Rattle.sheet_types.proofs.Basics.{or-false}
use Rattle.opening_faults.specs.Merges.{is_above}

-- a source whose number is now the greater of two
pub noted_text : {Y : Type 0} (m new : BTreeMap (String Y) ℤ) (bs source : List ℕ) (last : Option ℤ)
    (seq top : ℤ)
    → bs ≡ source → last ≡ get_by_text m source
    → ((n : ℤ) → int_lt n top ≡ (option_map_or (int_lt n) last false || int_lt n seq))
    → tree.UpdatesBy string_cmp (λ k. slice_cmp nat_cmp bs (string_bytes k)) m new (Some top)
    → (p : List ℕ) (n : ℤ) → is_above new p n ≡ (is_above m p n || (bytes_eq source p && int_lt n seq))
noted_text m new bs source last seq top same was is h p n =
    ap (λ o. option_map_or (int_lt n) o false) (btree_map_updates_text bs m new (Some top) h p)
    ∙ ap (λ b. option_map_or (int_lt n) (cond (bytes_eq b p) (Some top) (get_by_text m p)) false) same
    ∙ elim (bytes_eq source p) as (λ v. bytes_eq source p ≡ v
    → option_map_or (int_lt n) (cond v (Some top) (get_by_text m p)) false
    ≡ (is_above m p n || (v && int_lt n seq))) [
      | true ↦ λ e. is n ∙ ap (λ o. option_map_or (int_lt n) o false || int_lt n seq)
          (was ∙ ap (get_by_text m) ((bytes_eq-Decides source p).0 e))
      | false ↦ λ e. sym (or-false (is_above m p n))
    ] refl
