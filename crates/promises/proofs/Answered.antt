-- What a save and a read are answered, in terms of the account that the lot holds. Assumes nothing.
use Prim.Native.Nat.{ℕ}
use mathlib.Core.Path.{◌≡◌, refl, sym, ap, ◌∙◌}
use mathlib.Core.Bool.{Bool, true, false, not, ◌&&◌}
use mathlib.Core.List.{List}
use lib.Dec.{ltb}
use lib.ListN.{length, take, drop}
use lib.Seq.{take_at}
use borrow.Author.Tests.{ltb-true}
use Rattle.std.specs.Prelude.{if◌then◌else◌, Option, Result, Ok, Err}
use Rattle.model.specs.Account.{Account, Record, absent, present, Named, refused, found}
use Rattle.model.specs.Image.{image, LONGEST_IMAGE}
use Rattle.model.specs.declared.Refusal.{Refusal}
use Rattle.model.specs.declared.Refusal.TheVariants.{TooShort, OutsideAccount}
use Rattle.model.proofs.Tests.{no_way, and_l, and_r}
use Rattle.lot.specs.View.{holds}
use Rattle.lot.specs.Writing.{found_of}
use Rattle.lots.specs.Memory.{view_of, named}
use Rattle.lots.proofs.Named.{holder}
use Rattle.standby.specs.Calls.{read_from, read_answer}
use Rattle.standby.specs.Images.{save_from, save_answer, AccountSaved}
use Rattle.promises.specs.Images.{ImageOf, SameImage, RecordOf}
use Rattle.promises.specs.Runs as runs
use Rattle.promises.specs.Runs.{save_account, read_record, Step, saves, reads}

-- a record is not a refusal, and is answered as no other
not_refused : (x : Record) {r : Refusal} {X : Type 0} → Ok (found_of x) ≡ Err r → X
not_refused x e = no_way cc

same_record : (x y : Record) → found_of x ≡ found_of y → x ≡ y
same_record absent absent e = refl
same_record absent (present y) e = no_way cc
same_record (present x) absent e = no_way cc
same_record (present x) (present y) e = cc

module _ (m : List ℕ) (lots lot number : ℕ) {a : Account} (v : view_of m lot ≡ holds a) where
  -- the account that a call finds there
  pub same_account : {b : Account} → named m lots lot number ≡ found b → b ≡ a
  same_account q = cc (holder m lots lot number q).held

  saved_image : {buffer buffer' : List ℕ} {n : ℕ} → AccountSaved m lots lot number buffer buffer' (Ok n) → ImageOf a n buffer'
  unfolding save_answer
  saved_image {buffer} {buffer'} {n} w = let e : n ≡ length (image a) = go (named m lots lot number) refl w.answer in record { long = e; bytes = ap (take n) (w.saved a v) ∙ take_at (image a) (drop n buffer) n (sym e) }
    where
      found_there : (b : Account) (t : Bool) → b ≡ a → Ok n ≡ (if t then Err TooShort else Ok (length (image b))) → n ≡ length (image a)
      found_there b true q e = no_way cc
      found_there b false q e = let s : n ≡ length (image b) = cc in s ∙ ap (λ c. length (image c)) q

      go : (x : Named) → named m lots lot number ≡ x → Ok n ≡ save_from x (length buffer) → n ≡ length (image a)
      go (refused r) q e = no_way cc
      go (found b) q e = found_there b (ltb (length buffer) LONGEST_IMAGE) (same_account q) e

  read_shows : {i key : ℕ} (x : Record) → Ok (found_of x) ≡ read_answer m lots lot number i key → RecordOf a i key x
  unfolding read_answer
  read_shows {i} {key} x w = go (named m lots lot number) refl w
    where
      found_there : (b : Account) (t : Bool) → ltb i b.fragments && ltb key b.keys ≡ t → b ≡ a → Ok (found_of x) ≡ (if not t then Err OutsideAccount else Ok (found_of ((b.at i).records key))) → RecordOf a i key x
      found_there b false l q e = not_refused x e
      found_there b true l q e =
          let s : found_of x ≡ found_of ((b.at i).records key) = cc in
          let l' : ltb i a.fragments && ltb key a.keys ≡ true = rw (← q) l in
          record { in_fragments = ltb-true i a.fragments (and_l _ _ l'); in_keys = ltb-true key a.keys (and_r (ltb i a.fragments) _ l'); value = same_record x ((b.at i).records key) s ∙ ap (λ c. (c.at i).records key) q }

      go : (n : Named) → named m lots lot number ≡ n → Ok (found_of x) ≡ read_from n i key → RecordOf a i key x
      go (refused r) q e = not_refused x e
      go (found b) q e = found_there b (ltb i b.fragments && ltb key b.keys) refl (same_account q) e

-- ---- as steps of a run

pub save_shows : {m m' : List ℕ} (lots lot number : ℕ) {buffer buffer' : List ℕ} {n : ℕ} {a : Account} → Step m (save_account lots lot number buffer) (runs.saved (Ok n) buffer') m' → view_of m lot ≡ holds a → ImageOf a n buffer'
save_shows {m} lots lot number (saves w) v = saved_image m lots lot number v w

pub same_image : {a : Account} {n₁ n₂ : ℕ} {buffer₁ buffer₂ : List ℕ} → ImageOf a n₁ buffer₁ → ImageOf a n₂ buffer₂ → SameImage n₁ n₂ buffer₁ buffer₂
same_image u w = record { long = u.long ∙ sym w.long; bytes = u.bytes ∙ sym w.bytes }

pub read_answered : {m m' : List ℕ} (lots lot number i key : ℕ) (x : Record) {a : Account} → Step m (read_record lots lot number i key) (runs.found (Ok (found_of x))) m' → view_of m lot ≡ holds a → RecordOf a i key x
read_answered lots lot number i key x s v = go x s v refl
  where
    go : {m m' : List ℕ} (x : Record) {r : Result (Option ℕ) Refusal} {a : Account} → Step m (read_record lots lot number i key) (runs.found r) m' → view_of m lot ≡ holds a → Ok (found_of x) ≡ r → RecordOf a i key x
    go {m} x (reads w) v e = read_shows m lots lot number v x (e ∙ w)
