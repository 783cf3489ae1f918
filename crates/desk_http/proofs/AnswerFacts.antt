-- What the world told is what is answered.
use Rattle.std.proofs.Common.{◌≡◌, ◌⊎◌, ◌∙◌, ℕ, Bool, true, false, List, Option, Some, None, ap}
use Rattle.std.proofs.Common.{sym, subst, inl, inr}
use Rattle.std.specs.Bool.{then_some}
use Rattle.sheet_types.proofs.Basics.{None≢Some, some_same}
use Rattle.sheet_types.specs.Answers.{holdings_answer, receipt_answer}
use Rattle.sheet_types.specs.World.{World, holdings, is_live}
use Rattle.sheet_types.specs.declared.command.Item.{Item}
use Rattle.sheet_types.specs.declared.command.Relation.{Relation}
use Rattle.sheet_types.specs.declared.receipt.Receipt.{Receipt}
use Rattle.manifest_csv.specs.Manifests.{manifest_of}
use Rattle.desk_calls.specs.declared.calls.Call.TheVariants as call
use Rattle.desk_replies.specs.Responses.{fixed_response, manifest_response, receipt_response}
use Rattle.desk_replies.specs.declared.fixed.Fixed.TheVariants as fixed
use Rattle.desk_http.specs.Served.{IsAnswer, IsFaultText, IsReceiptText, manifest_answer}

pub receipt_told : (w : World) (id : List ℕ) (r : Receipt) (out : List ℕ) → Some r ≡ receipt_answer w id
    → (out ≡ receipt_response r) ⊎ (out ≡ fixed_response fixed.AskAgain)
    → IsAnswer w (call.Receipt (Some id)) out ⊎ IsFaultText out
receipt_told w id r out told is = inl (subst (λ found. IsReceiptText found out) told is)

pub no_receipt_told : (w : World) (id out : List ℕ) → None ≡ receipt_answer w id
    → out ≡ fixed_response fixed.NoSuchReceipt → IsAnswer w (call.Receipt (Some id)) out ⊎ IsFaultText out
no_receipt_told w id out told is = inl (subst (λ found. IsReceiptText found out) told is)

manifest_by : (b : Bool) (w : World) (p : List ℕ) (items : List Item) (links : List Relation) (out : List ℕ)
    → ◌≡◌ {A = Option (List Item × List Relation)} (Some (items, links))
    (then_some b ((holdings w p).items, (holdings w p).links))
    → out ≡ manifest_response (manifest_of items links) → out ≡ manifest_answer b w p
manifest_by true w p items links out told is =
    let pair = some_same told in
    is ∙ ap (λ held. manifest_response (manifest_of held.0 held.1)) pair
manifest_by false w p items links out told is = absurd (None≢Some (sym told))

pub manifest_told : (w : World) (p : List ℕ) (items : List Item) (links : List Relation) (out : List ℕ)
    → Some (items, links) ≡ holdings_answer w p
    → out ≡ manifest_response (manifest_of items links) → IsAnswer w (call.Manifest (Some p)) out
    ⊎ IsFaultText out
manifest_told w p items links out told is = inl (manifest_by (is_live w p) w p items links out told is)

no_manifest_by : (b : Bool) (w : World) (p out : List ℕ)
    → ◌≡◌ {A = Option (List Item × List Relation)} None (then_some b
    ((holdings w p).items, (holdings w p).links))
    → out ≡ fixed_response fixed.NoSuchPackage
    → out ≡ manifest_answer b w p
no_manifest_by true w p out told is = absurd (None≢Some told)
no_manifest_by false w p out told is = is

pub no_manifest_told : (w : World) (p out : List ℕ) → None ≡ holdings_answer w p
    → out ≡ fixed_response fixed.NoSuchPackage → IsAnswer w (call.Manifest (Some p)) out ⊎ IsFaultText out
no_manifest_told w p out told is = inl (no_manifest_by (is_live w p) w p out told is)
