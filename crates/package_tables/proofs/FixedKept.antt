-- The contents of a frame, at another moment of the last change.
use Rattle.std.proofs.Common.{◌≡◌, ℕ, List, [], ◌∷◌, refl, ap, ◌∙◌}
use Rattle.sheet_types.specs.declared.frame.Frame.{Frame}
use Rattle.package_tables.specs.Package.{Tables}
use Rattle.package_tables.specs.Changes.{SetsLastChange, redated}
use Rattle.package_tables.specs.Fixed.{HasFixed, undated, contents_of}
use Rattle.package_tables.specs.declared.rows.ContentsRow.{ContentsRow}

-- the moment that was there does not count
of_undated : (at : List ℕ) (cs : List ContentsRow) → redated at cs ≡ redated at (undated cs)
of_undated at [] = refl
of_undated at (c ∷ cs) = ap (λ l. record c { last_change = at } ∷ l) (of_undated at cs)

-- Where each row gets the moment, the contents are those of the frame at the moment, and nothing else changed.
pub dated : (f : Frame) (at : List ℕ) (before after : Tables) → HasFixed f before
    → SetsLastChange at before after → after ≡ record before { contents = contents_of f at }
dated f at before after has is = is ∙ ap (λ (l : List ContentsRow). record before { contents = l })
    (of_undated at before.contents ∙ ap (redated at) has.contents)
