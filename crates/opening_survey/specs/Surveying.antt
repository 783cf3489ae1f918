-- What the parts of a survey answer, one after the other. Profile.
use Rattle.std.specs.Prelude.{◌≡◌, Bool, false, List, map, filter, Option, MatchOption, option_map}
use Rattle.sqlite.specs.Effect.{Database}
use Rattle.sheet_types.specs.Opening.{Claim}
use Rattle.sheet_types.specs.declared.frame.Frame.{Frame}
use Rattle.opening_faults.specs.Passages.{is_passage, passages}
use Rattle.opening_faults.specs.Sights.{head_said, claim_said}
use Rattle.opening_faults.specs.declared.sights.StoreClaim.{StoreClaim}
use Rattle.package_tables.specs.Damaged.{ReadsClaims}
use Rattle.package_tables.specs.Package.{Tables, tables_of, AreFormed}
use Rattle.package_schema.specs.Heads.{ReadsHead}
use Rattle.package_schema.specs.declared.claims.StoreClaim.{StoreClaim as ReadClaim}
use Rattle.package_items.specs.Answers.{Decides}
use Rattle.package_items.specs.Tied.{AreTied, AreUnique}
use Rattle.package_receipts.specs.Read.{AreSaid}
use Rattle.opening_verdict.specs.declared.seen.StoreSeen.{StoreSeen}
use Rattle.opening_survey.specs.Looks.{IsFramed, IsSeenRight}
use Rattle.opening_survey.specs.Views.{IsFormed}
use Rattle.opening_survey.specs.declared.forms.Formed.{Formed}
use Rattle.opening_survey.specs.declared.said.Said.{Said}

-- a claim that was read, in the words of the opening
abbrev pub claim_told : ReadClaim → StoreClaim
claim_told c = record { seq = c.seq; line = c.line; source = c.source; target = c.target }

-- the splits and merges among claims that were read, in the words of the opening
abbrev pub passages_told : List ReadClaim → List StoreClaim
passages_told read = filter (λ c. is_passage (claim_said c)) (map claim_told read)

-- of the claims of the database these are the splits and merges
pub record HasPassages (db : Database) (said : List StoreClaim) : Type 0 where
  pub claims : List Claim
  pub reads : ReadsClaims db claims
  pub taken : map claim_said said ≡ passages claims

-- these are the head of the database, and its splits and merges
pub record IsSaid (db : Database) (s : Said) : Type 0 where
  pub head : ReadsHead db (option_map head_said s.head)
  pub claims : HasPassages db s.claims.items

-- all tables have their form, whatever the head, and say this frame and these receipts
pub record IsRead (x : Formed) (db : Database) : Type 0 where
  pub formed : AreFormed db
  pub framed : IsFramed x.frame (tables_of db)
  pub receipts : AreSaid (tables_of db) x.receipts.items

-- or the store is not formed
abbrev pub ReadsFormed : Database → Option Formed → Type 0
ReadsFormed db found = MatchOption found (IsFormed db → ⊥) (λ x. IsRead x db)

-- nothing is there twice, and the answer tells whether all is tied
pub record TellsTied (t : Tables) (answer : Bool) : Type 0 where
  pub unique : AreUnique t
  pub tied : Decides (AreTied t) answer

-- seen with this head and these splits and merges, this frame, and no package
pub record IsSeenWithout (s : Said) (f : Frame) (is_formed : Bool) (x : StoreSeen) : Type 0 where
  pub head : x.sight.head ≡ s.head
  pub claims : x.sight.claims ≡ s.claims
  pub frame : x.sight.frame ≡ f
  pub formed : x.is_formed ≡ is_formed
  pub tied : x.is_tied ≡ false

-- a store that says this, and is read so, is seen right
abbrev pub SeesFormed : Said → Formed → Database → StoreSeen → Type 0
SeesFormed s x db seen = IsSaid db s → IsRead x db → IsSeenRight db seen
