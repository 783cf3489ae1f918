-- What became of the store that a shelf gave for the child of a split.
use Rattle.std.specs.Prelude.{◌≡◌, ◌≢◌, ◌⊎◌, ℕ, List, [], ◌∷◌, Option, Some, None, Result}
use Rattle.std.specs.Prelude.{Ok, Err, refl}
use Rattle.std.proofs.Common.{sym, subst, inl, inr}
use Rattle.sqlite.specs.Held.{Held}
use Rattle.sqlite.specs.Store.{Ghosts}
use Rattle.sqlite.specs.Tree.{Trees}
use Rattle.sheet_types.specs.declared.command.Command.{Command}
use Rattle.sheet_types.specs.declared.command.Command.TheVariants.{Add, Delete, Link, Unlink, Split, Merge}
use Rattle.sheet_types.specs.declared.frame.Frame.{Frame}
use Rattle.sheet_types.specs.declared.receipt.Receipt.{Receipt}
use Rattle.sheet_types.specs.declared.refusal.Refusal.{Refusal}
use Rattle.package_tables.specs.declared.fault.Fault.TheVariants as fault
use Rattle.register_lending.specs.declared.turn_fault.TurnFault.{TurnFault}
use Rattle.register_lending.specs.declared.turn_fault.TurnFault.TheVariants.{Before, Committing}
use Rattle.world_changes.specs.Giving.{AsksChild, IsUnlent, LeavesBlankOr, ReturnsUnlent}
use Rattle.world_changes.proofs.Lent.{left_weaker}
use Rattle.world_decisions.specs.Deciding.{child_asked}
use Rattle.world_loans.specs.ServeFaults.{CountsShelf, IsLastingFault}
use Rattle.world_loans.specs.declared.loans.Lending.{Lending}
use Rattle.world_loans.specs.declared.loans.ServeFault.{ServeFault}
use Rattle.world_loans.specs.declared.loans.ServeFault.TheVariants.{Unshelved, Turn}
use Rattle.world_members.specs.declared.members.Member.{Member}
use Rattle.world.specs.Asked.{ComeHome, GivesBack, HasBack, MayReturn, ServesChild, SettlesChild, UsesChild}
use Rattle.world.specs.Asked.{child_returned}
use Rattle.world.specs.Worlds.{Seen}
use Rattle.sheet_types.specs.declared.refusal.Refusal.TheVariants.{StoreFault}

module _ {S : Type 0} (g : Ghosts S) {H : Type 0} (Asks : List ℕ → H → H → Type 0)
    (Takes : List ℕ → S → H → H → Type 0) (Fails : H → ℕ) where
  -- ---- a split that is due

  -- the child's store was not filled
  pub unfilled_back : (f : Frame) (due : Lending) (old new : List (Member S)) (strays : List (Held S))
      (why : ServeFault) (s t : H) → CountsShelf {X = Receipt} (Err why) (Fails s) (Fails t)
      → AsksChild g Takes Asks f due old new (Err why) s t → UsesChild g Asks Takes Fails f due old new strays
      (Err why) s t
  unfilled_back f due old new strays (Unshelved x) s t counts asked = inr (t, asked, inl (refl, counts.0))
  unfilled_back f due old new strays (Turn x) s t counts asked = inr (asked.0, asked.1, inr (inl asked.2))

  -- the parent did not lend
  pub unlent_back : (f : Frame) (due : Lending) (old new : List (Member S)) (strays : List (Held S)) (child : Held S)
      (why : TurnFault) (s mid t : H) → Asks due.child s mid → ReturnsUnlent g Takes due.child child (Err why) mid t
      → LeavesBlankOr g (IsUnlent g f due old new) child
      → (why ≢ Before fault.OutOfMemory → strays ≡ child ∷ [])
      → UsesChild g Asks Takes Fails f due old new strays (Err (Turn why)) s t
  unlent_back f due old new strays child (Before fault.OutOfMemory) s mid t asked back left kept =
      inr (mid, asked, inr (inl (child, left, back.1 refl)))
  unlent_back f due old new strays child (Before fault.StoreFault) s mid t asked back left kept =
      let lasting : Before fault.StoreFault ≢ Before fault.OutOfMemory = λ e. cc in
      inr (mid, asked, inr (inr (back.0 lasting, lasting, (child, kept lasting))))
  unlent_back f due old new strays child (Committing x) s mid t asked back left kept =
      let lasting : Committing x ≢ Before fault.OutOfMemory = λ e. cc in
      inr (mid, asked, inr (inr (back.0 lasting, lasting, (child, kept lasting))))

  -- so the shelf was asked once, and given back one store at most
  pub asked_of_child : (f : Frame) (due : Lending) (old new : List (Member S)) (strays : List (Held S))
      (r : Result Receipt ServeFault) (s t : H) → UsesChild g Asks Takes Fails f due old new strays r s t
      → (t ≡ s)
      ⊎ ((mid : H) × Asks due.child s mid × MayReturn Takes due.child mid t)
  asked_of_child f due old new strays (Ok receipt) s t asked = inr (t, asked, inl refl)
  asked_of_child f due old new strays (Err why) s t (inl same) = inl same
  asked_of_child f due old new strays (Err why) s t (inr once) = inr (once.0, once.1, returned once.2)
    where
      returned : HasBack g Asks Takes Fails due.child (IsUnlent g f due old new) (IsLastingFault why) strays s once.0
          t → MayReturn Takes due.child once.0 t
      returned (inl none) = inl none.0
      returned (inr (inl back)) = inr (back.2.0, back.2.2)
      returned (inr (inr stray)) = inl stray.0

  -- ---- a request

  pub gives_weaker : (child : List ℕ) (Beside Weaker : Trees → Type 0) (Failed Lasting : Type 0)
      (strays : List (Held S)) (s t : H) → ((trees : Trees) → Beside trees → Weaker trees)
      → (Failed → Lasting)
      → GivesBack g Asks Takes Fails child Beside Failed strays s t
      → GivesBack g Asks Takes Fails child Weaker Lasting strays s t
  gives_weaker child Beside Weaker Failed Lasting strays s t so lasts (inl same) = inl same
  gives_weaker child Beside Weaker Failed Lasting strays s t so lasts (inr once) = inr (once.0, once.1, back once.2)
    where
      back : HasBack g Asks Takes Fails child Beside Failed strays s once.0 t
          → HasBack g Asks Takes Fails child Weaker Lasting strays s once.0 t
      back (inl none) = inl none
      back (inr (inl given)) = inr (inl (given.0, left_weaker g given.0 so given.1, given.2))
      back (inr (inr stray)) = inr (inr (stray.0, lasts stray.1, stray.2))

  module _ (Beside : List ℕ → Trees → Type 0) (strays : List (Held S)) where
    -- nothing was asked for
    pub child_unasked : (asked : Option (List ℕ)) (r : Result (Result Receipt Refusal) ServeFault) (s : H)
        → ServesChild g Asks Takes Fails asked Beside strays r s s
    child_unasked None r s = tt
    child_unasked (Some child) (Ok (Ok receipt)) s = inl refl
    child_unasked (Some child) (Ok (Err why)) s = refl
    child_unasked (Some child) (Err why) s = inl refl

    -- a split was due
    pub child_split : (asked : Option (List ℕ)) (f : Frame) (due : Lending) (mid new : List (Member S))
        (receipt : Receipt) (s t : H) → asked ≡ Some due.child
        → UsesChild g Asks Takes Fails f due mid new strays (Ok receipt) s t
        → ServesChild g Asks Takes Fails asked Beside strays (Ok (Ok receipt)) s t
    child_split asked f due mid new receipt s t is used = subst
        (λ x. ServesChild g Asks Takes Fails x Beside strays (Ok (Ok receipt)) s t) (sym is) (inr used)

    pub child_unsplit : (asked : Option (List ℕ)) (f : Frame) (due : Lending) (mid new : List (Member S))
        (why : ServeFault) (s t : H) → asked ≡ Some due.child
        → ((trees : Trees) → IsUnlent g f due mid new trees → Beside due.child trees)
        → UsesChild g Asks Takes Fails f due mid new strays (Err why) s t
        → ServesChild g Asks Takes Fails asked Beside strays (Err why) s t
    child_unsplit asked f due mid new why s t is so used = subst
        (λ x. ServesChild g Asks Takes Fails x Beside strays (Err why) s t) (sym is)
        (gives_weaker due.child (IsUnlent g f due mid new) (Beside due.child) (IsLastingFault why)
        (IsLastingFault why) strays s t so (λ l. l) used)

    -- a merge was due, which asks for no child
    no_child : (command : Command) (uuid : List ℕ) → child_returned command ≡ Some uuid
        → child_asked command ≡ None
    no_child (Merge child into ticket) uuid is = refl
    no_child (Split p child mode rect) uuid is = absurd (let e = is in cc)
    no_child (Add p identity content) uuid is = absurd (let e = is in cc)
    no_child (Delete p identity) uuid is = absurd (let e = is in cc)
    no_child (Link p mapping base other) uuid is = absurd (let e = is in cc)
    no_child (Unlink p mapping base other) uuid is = absurd (let e = is in cc)

    pub child_merged : (members : List (Member S)) (command : Command) (Fact : List ℕ → Type 0)
        (gone : List (Held S))
        (r : Result (Result Receipt Refusal) ServeFault) (s t : H) → ComeHome g Takes members Fact gone s t
        → ((x : List ℕ) → Fact x → child_returned command ≡ Some x)
        → ServesChild g Asks Takes Fails (child_asked command) Beside strays r s t
    child_merged members command Fact [] r s t same named = subst
        (λ x. ServesChild g Asks Takes Fails (child_asked command) Beside strays r s x) (sym same)
        (child_unasked (child_asked command) r s)
    child_merged members command Fact (conn ∷ others) r s t home named =
        subst (λ x. ServesChild g Asks Takes Fails x Beside strays r s t)
        (sym (no_child command home.1.1.uuid (named home.1.1.uuid home.1.5))) tt

  -- a world that has failed asks for nothing
  pub unserved_settles : (asked : Option (List ℕ)) (seen : Seen S) (s : H)
      → SettlesChild g Asks Takes Fails asked seen (Err StoreFault) seen s s
  unserved_settles None seen s = tt
  unserved_settles (Some child) seen s = inl refl
