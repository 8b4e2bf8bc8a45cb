-- What each return of save answers, and what it leaves of the buffer. Assumes nothing.
use Prim.Native.Nat.{ℕ, ◌+◌, ◌*◌, ◌<◌, ◌≤◌}
use mathlib.Core.Path.{◌≡◌, refl, sym, ap, ◌∙◌}
use mathlib.Core.Bool.{Bool, true, false}
use mathlib.Core.List.{List}
use lib.Dec.{ltb}
use lib.ListN.{length, take, drop}
use lib.Seq.{take_at}
use borrow.Author.Tests.{eq-eqb, lt-ltb, le-ltb}
use Rattle.std.specs.Prelude.{if◌then◌else◌, Ok, Err}
use Rattle.model.specs.Account.{Account, Named, refused, found}
use Rattle.model.specs.Image.{image, LONGEST_IMAGE}
use Rattle.model.specs.declared.Refusal.{Refusal}
use Rattle.model.specs.declared.Refusal.TheVariants.{TooShort}
use Rattle.model.proofs.Tests.{no_way}
use Rattle.lot.specs.Layout.{SIZE}
use Rattle.lot.specs.View.{holds}
use Rattle.lot.specs.declared.Account as numbers
use Rattle.lot.specs.declared.Look.TheVariants.{Holds}
use Rattle.lots.specs.Memory.{lot_fits, lot_of, view_of, named}
use Rattle.lots.specs.Looks.{look_from, finding_of}
use Rattle.lots.proofs.Parts.{lot_inside}
use Rattle.lots.proofs.Named.{Holder, holder, finding_refused, finding_found, FoundHere}
use Rattle.image.specs.Saving.{LotSaved}
use Rattle.standby.specs.Images.{save_from, save_answer, AccountSaved}

module _ (m : List ℕ) (lots lot number : ℕ) (buffer : List ℕ) where
  pub save_refused : {r : Refusal} → finding_of (named m lots lot number) ≡ Err r → AccountSaved m lots lot number buffer buffer (Err r)
  unfolding save_answer
  save_refused e = record { answer = rw (finding_refused m lots lot number e); saved = refl }

  -- n: the numbers of the account that the call finds
  module _ (n : numbers.Account) (e : finding_of (named m lots lot number) ≡ Ok n) where
    abbrev w : FoundHere m lots lot number n
    w = finding_found m lots lot number e

    pub save_short : length buffer < LONGEST_IMAGE → AccountSaved m lots lot number buffer buffer (Err TooShort)
    unfolding save_answer
    save_short h = record { answer = rw (w.is_named, lt-ltb (length buffer) LONGEST_IMAGE h); saved = refl }

    module _ (room : LONGEST_IMAGE ≤ length buffer) where
      pub can_save : (lot * SIZE + SIZE ≤ length m) × (look_from (view_of m lot) ≡ Holds n) × (LONGEST_IMAGE ≤ length buffer)
      can_save = (lot_inside lots lot m w.here.there, ap look_from w.here.held ∙ ap Holds (sym w.numbers), room)

      pub account_saved : {buffer' : List ℕ} {r : ℕ} → LotSaved (lot_of m lot) buffer buffer' r → AccountSaved m lots lot number buffer buffer' (Ok r)
      unfolding save_answer view_of
      account_saved s =
          record {
            answer = ap Ok (s w.account w.here.held).answer ∙ rw (w.is_named, le-ltb (length buffer) LONGEST_IMAGE room);
            saved = λ a v. let q = s a v in rw q.answer q.bytes;
          }

  -- ---- where a save is done, the lot holds the account, and its image is what was written

  pub record SaveDone (n : ℕ) : Type 0 where
    pub account : Account
    pub here : Holder m lots lot number account
    pub long : n ≡ length (image account)

  pub saving : {n : ℕ} → Ok n ≡ save_answer m lots lot number buffer → SaveDone n
  unfolding save_answer
  saving {n} e = go (named m lots lot number) refl e
    where
      with_room : (a : Account) (short : Bool) → named m lots lot number ≡ found a → Ok n ≡ (if short then Err TooShort else Ok (length (image a))) → SaveDone n
      with_room a true q e = no_way cc
      with_room a false q e = record { account = a; here = holder m lots lot number q; long = cc }

      go : (x : Named) → named m lots lot number ≡ x → Ok n ≡ save_from x (length buffer) → SaveDone n
      go (refused r) q e = no_way cc
      go (found a) q e = with_room a (ltb (length buffer) LONGEST_IMAGE) q e

  pub image_written : {buffer' : List ℕ} {n : ℕ} → AccountSaved m lots lot number buffer buffer' (Ok n) → (d : SaveDone n) → take n buffer' ≡ image d.account
  image_written {buffer'} {n} w d = rw (w.saved d.account d.here.held) (take_at (image d.account) (drop n buffer) n (sym d.long))

  -- and a save that names an account and the lot that holds it is done, where there is room
  pub save_with_room : {a : Account} → lot_fits lots lot m ≡ true → view_of m lot ≡ holds a → a.number ≡ number → LONGEST_IMAGE ≤ length buffer → save_answer m lots lot number buffer ≡ Ok (length (image a))
  unfolding save_answer named
  save_with_room {a} there held own room = rw (there, held, eq-eqb a.number number own, le-ltb (length buffer) LONGEST_IMAGE room)
