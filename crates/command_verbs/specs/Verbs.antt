-- Which command the words of a verb say, and why they say none. Profile.
use Rattle.std.specs.Prelude.{◌≡◌, ◌≢◌, ◌⊎◌, ℕ, ℤ, pos, ◌<◌, FitsSigned, List, Option, Some}
use Rattle.std.specs.Prelude.{None, Result, Ok, Err}
use Rattle.std.specs.Borrow.{Bor}
use Rattle.std.specs.Int.{w64}
use Rattle.std.specs.Option.{option_map}
use Rattle.sheet_types.specs.Answers.{PackageSight}
use Rattle.sheet_types.specs.declared.command.Command.{Command}
use Rattle.sheet_types.specs.declared.command.Command.TheVariants.{Add, Link, Unlink, Split, Merge}
use Rattle.sheet_types.specs.declared.command.Content.TheVariants.{Tile, Media, Row}
use Rattle.sheet_types.specs.declared.command.Mode.{Mode}
use Rattle.sheet_types.specs.declared.command.Relation.{Relation}
use Rattle.sheet_types.specs.declared.command.Request.{Request}
use Rattle.sheet_types.specs.declared.frame.Rect.{Rect}
use Rattle.command_verbs.specs.Areas.{FitsWords, IsArea, IsNatural, IsPlace, PlaceFits}
use Rattle.command_verbs.specs.Items.{the_item, tie}
use Rattle.command_verbs.specs.Points.{IsPoint}
use Rattle.command_verbs.specs.Media.{media_type, type_name}
use Rattle.command_verbs.specs.Names.{giver_of, the_one}
use Rattle.command_verbs.specs.declared.areas.Place.{Place}
use Rattle.command_verbs.specs.declared.items.ItemEntry.{ItemEntry}
use Rattle.command_verbs.specs.declared.media.MediaType.{MediaType}
use Rattle.command_verbs.specs.declared.names.NameFault.{NameFault}
use Rattle.command_verbs.specs.declared.points.Point.{Point}
use Rattle.command_verbs.specs.declared.verbs.Mark.{Mark}
use Rattle.command_verbs.specs.declared.verbs.Verb.{Verb}
use Rattle.command_verbs.specs.declared.verbs.Verb.TheVariants.{Lend, Return, PutTile, PutMedium, PutMark, Join, Part}
use Rattle.command_verbs.specs.declared.verbs.VerbFault.{VerbFault}
use Rattle.command_verbs.specs.declared.verbs.VerbFault.TheVariants.{OutOfMemory, Unnamed, Unfound, BadArea, BadPlace}
use Rattle.command_verbs.specs.declared.verbs.VerbFault.TheVariants.{BadPoint, BadCode, BadType, NotLent, BadTicket}
use Rattle.command_verbs.specs.declared.verbs.VerbFault.TheVariants.{Apart, Unrelated}

-- the type that is said, or else that of the first bytes
abbrev pub IsTypeOf : Option (List ℕ) → List ℕ → List ℕ → Type 0
IsTypeOf (Some word) bytes content_type = content_type ≡ word
IsTypeOf None bytes content_type = (m : MediaType) × (media_type bytes ≡ Some m) × (content_type ≡ type_name m)

abbrev pub IsWhyUntyped : Option (List ℕ) → List ℕ → VerbFault → Type 0
IsWhyUntyped (Some word) bytes fault = fault ≡ OutOfMemory
IsWhyUntyped None bytes fault = (fault ≡ OutOfMemory) ⊎ ((fault ≡ BadType) × (media_type bytes ≡ None))

-- the text that a word is
abbrev pub text_of : Option (Bor (List ℕ)) → Option (List ℕ)
text_of word = option_map (λ text. text.now) word

module _ (sights : List PackageSight) where
  -- the sheets of an area of a package that lives go into a new one
  abbrev pub Lends : Option (List ℕ) → List ℕ → Mode → List ℕ → Command → Type 0
  Lends from area mode loan command =
      (giver : PackageSight) × (r : Rect) × (giver_of sights from ≡ Ok giver) × IsArea area r
      × (command ≡ Split giver.uuid loan mode r)

  -- a loan goes into the package that lent it, with the number of the last receipt that names it
  abbrev pub Returns : List ℕ → Command → Type 0
  Returns loan command =
      (lent : PackageSight) × (into : List ℕ) × (the_one sights loan ≡ Ok lent) × (lent.parent ≡ Some into)
      × (command ≡ Merge lent.uuid into (pos lent.ticket))

  -- a tile comes into a package that lives
  abbrev pub PutsTile : List ℕ → List ℕ → List ℕ → List ℕ → Command → Type 0
  PutsTile holder place identity bytes command =
      (p : PackageSight) × (at : Place) × (the_one sights holder ≡ Ok p) × IsPlace place at
      × (command ≡ Add p.uuid identity (Tile at.zoom at.column at.row bytes))

  -- a medium does
  abbrev pub PutsMedium : List ℕ → Option (List ℕ) → List ℕ → List ℕ → Command → Type 0
  PutsMedium holder word identity bytes command =
      (p : PackageSight) × (content_type : List ℕ) × (the_one sights holder ≡ Ok p)
      × IsTypeOf word bytes content_type
      × (command ≡ Add p.uuid identity (Media content_type bytes))

  -- an attributes row does
  abbrev pub PutsMark : List ℕ → Mark → List ℕ → Command → Type 0
  PutsMark holder m identity command =
      (p : PackageSight) × (at : Point) × (code : ℤ) × (the_one sights holder ≡ Ok p) × IsPoint m.point.now at
      × IsNatural m.code.now code
      × (command ≡ Add p.uuid identity (Row at.x at.y code m.label.now))

  -- ---- why there is none

  abbrev pub IsUnnamed : List ℕ → VerbFault → Type 0
  IsUnnamed word fault = (why : NameFault) × (the_one sights word ≡ Err why) × (fault ≡ Unnamed why)

  abbrev pub IsWhyUnlent : Option (List ℕ) → List ℕ → VerbFault → Type 0
  IsWhyUnlent from area fault =
      ((why : NameFault) × (giver_of sights from ≡ Err why) × (fault ≡ Unnamed why))
      ⊎ ((fault ≡ BadArea) × ((r : Rect) → FitsWords r → ¬ IsArea area r))

  abbrev pub IsWhyUnreturned : List ℕ → VerbFault → Type 0
  IsWhyUnreturned loan fault =
      IsUnnamed loan fault
      ⊎ ((fault ≡ NotLent) × ((p : PackageSight) × (the_one sights loan ≡ Ok p) × (p.parent ≡ None)))
      ⊎ ((fault ≡ BadTicket) × ((p : PackageSight) × (the_one sights loan ≡ Ok p)
      × (9223372036854775807 < p.ticket)))

  abbrev pub IsWhyNoTile : List ℕ → List ℕ → VerbFault → Type 0
  IsWhyNoTile holder place fault =
      IsUnnamed holder fault ⊎ ((fault ≡ BadPlace) × ((at : Place) → PlaceFits at → ¬ IsPlace place at))

  abbrev pub IsWhyNoMedium : List ℕ → Option (List ℕ) → List ℕ → VerbFault → Type 0
  IsWhyNoMedium holder word bytes fault = IsUnnamed holder fault ⊎ IsWhyUntyped word bytes fault

  abbrev pub IsWhyNoMark : List ℕ → Mark → VerbFault → Type 0
  IsWhyNoMark holder m fault =
      IsUnnamed holder fault
      ⊎ (fault ≡ OutOfMemory)
      ⊎ ((fault ≡ BadPoint) × ((at : Point) → ¬ IsPoint m.point.now at))
      ⊎ ((fault ≡ BadCode) × ((code : ℤ) → FitsSigned w64 code → ¬ IsNatural m.code.now code))

module _ (items : List ItemEntry) where
  -- two items are in one package, and their kinds are joined by this relation
  abbrev pub IsTied : List ℕ → List ℕ → List ℕ → Relation → Type 0
  IsTied first second holder relation =
      (one other : ItemEntry) × (the_item items first ≡ Ok one) × (the_item items second ≡ Ok other)
      × (one.holder ≡ holder) × (other.holder ≡ holder) × (tie one other ≡ Some relation)

  -- they are linked
  abbrev pub Joins : List ℕ → List ℕ → Command → Type 0
  Joins first second command =
      (holder : List ℕ) × (r : Relation) × IsTied first second holder r
      × (command ≡ Link holder r.mapping r.base r.other)

  -- their link is ended
  abbrev pub Parts : List ℕ → List ℕ → Command → Type 0
  Parts first second command =
      (holder : List ℕ) × (r : Relation) × IsTied first second holder r
      × (command ≡ Unlink holder r.mapping r.base r.other)

  abbrev pub IsUnfound : List ℕ → VerbFault → Type 0
  IsUnfound word fault = (why : NameFault) × (the_item items word ≡ Err why) × (fault ≡ Unfound why)

  -- both are found, and yet
  abbrev pub IsWhyLoose : List ℕ → List ℕ → VerbFault → Type 0
  IsWhyLoose first second fault =
      (one other : ItemEntry) × (the_item items first ≡ Ok one) × (the_item items second ≡ Ok other)
      × (((fault ≡ Apart) × (one.holder ≢ other.holder)) ⊎ ((fault ≡ Unrelated) × (tie one other ≡ None)))

  abbrev pub IsWhyUntied : List ℕ → List ℕ → VerbFault → Type 0
  IsWhyUntied first second fault = IsUnfound first fault ⊎ IsUnfound second fault ⊎ IsWhyLoose first second fault

-- ---- all verbs

module _ (sights : List PackageSight) (items : List ItemEntry) where
  -- this command, over these bytes
  abbrev pub Says : Verb → List ℕ → Command → Type 0
  Says (Lend from area mode loan) bytes command = Lends sights (text_of from) area.now mode loan command
  Says (Return loan) bytes command = Returns sights loan.now command
  Says (PutTile holder place identity) bytes command = PutsTile sights holder.now place.now identity bytes command
  Says (PutMedium holder word identity) bytes command = PutsMedium sights holder.now (text_of word) identity bytes
      command
  Says (PutMark holder mark identity) bytes command = PutsMark sights holder.now mark identity command
  Says (Join first second) bytes command = Joins items first.now second.now command
  Says (Part first second) bytes command = Parts items first.now second.now command

  -- why it says none
  abbrev pub IsWhyUnsaid : Verb → List ℕ → VerbFault → Type 0
  IsWhyUnsaid (Lend from area mode loan) bytes fault = IsWhyUnlent sights (text_of from) area.now fault
  IsWhyUnsaid (Return loan) bytes fault = IsWhyUnreturned sights loan.now fault
  IsWhyUnsaid (PutTile holder place identity) bytes fault = IsWhyNoTile sights holder.now place.now fault
  IsWhyUnsaid (PutMedium holder word identity) bytes fault = IsWhyNoMedium sights holder.now (text_of word) bytes fault
  IsWhyUnsaid (PutMark holder mark identity) bytes fault = IsWhyNoMark sights holder.now mark fault
  IsWhyUnsaid (Join first second) bytes fault = IsWhyUntied items first.now second.now fault
  IsWhyUnsaid (Part first second) bytes fault = IsWhyUntied items first.now second.now fault

-- under this identity, at this moment
abbrev pub request_of : List ℕ → List ℕ → Command → Request
request_of id at command = record { id = id; at = at; command = command }
