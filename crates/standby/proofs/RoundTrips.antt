-- Saving and loading by the calls: a saved image loads to the account it was saved from, an accepted image saves to the same bytes, and load reads no more than the image. Assumes nothing.
use Prim.Native.Nat.{ℕ, ◌<◌}
use mathlib.Core.Path.{◌≡◌, refl, sym, ap, ◌∙◌}
use mathlib.Core.Logic.{◌≢◌}
use mathlib.Core.Bool.{Bool, true, false}
use mathlib.Core.List.{List, [], ◌++◌}
use lib.ListN.{length, take}
use native.Mathlib.Omega.{arith}
use borrow.Author.Tests.{leb-true, ne_eqb}
use Rattle.std.specs.Prelude.{if◌then◌else◌, Some, Result, Ok, Err}
use Rattle.model.specs.Account.{Account}
use Rattle.model.specs.Image.{image}
use Rattle.model.specs.Decoding.{load}
use Rattle.model.specs.declared.Refusal.TheVariants.{NoSuchLot}
use Rattle.model.proofs.Tests.{no_way, nth}
use Rattle.model.proofs.Image.{loads_exactly, save_load, reads_no_more}
use Rattle.model.specs.declared.Refusal.{Refusal}
use Rattle.trailer.specs.Trailer.{numbers_of}
use Rattle.lot.specs.View.{Lot, free, damaged, holds}
use Rattle.lot.proofs.Views.{holds_well_formed}
use Rattle.lots.specs.Memory.{memory_fits, lot_of, view_of, is_damaged, is_free, is_of, some_below, lowest_below}
use Rattle.lots.proofs.Lowest.{none_passes, one_passes, lowest}
use Rattle.standby.specs.Calls.{start_answer, Started, place_for}
use Rattle.standby.specs.Images.{load_answer, LoadedAs, AccountLoaded}
use Rattle.standby.specs.RoundTrips.{SaveCall, LoadCall, Wrote, EndsWith, RoomFor, LoadedBack, SaveOfLoaded, SavedBack, WholeImage}
use Rattle.standby.proofs.Saving.{SaveDone, saving, image_written, save_with_room}
use Rattle.standby.proofs.Loading.{loading}

loaded_as : (l : LoadCall) {i : ℕ} → l.answer ≡ Ok i → LoadedAs l.memory_before l.memory_after l.given (Ok i)
loaded_as l q = rw q at l.kept.loaded

-- ---- what a save wrote is the image of the account that the lot holds

abbrev DoneAs : SaveCall → ℕ → Type 0
DoneAs s n = SaveDone s.memory s.lots s.lot s.account s.buffer_before n

module _ (s : SaveCall) {n : ℕ} (q : s.answer ≡ Ok n) where
  done_as : DoneAs s n
  done_as = saving s.memory s.lots s.lot s.account s.buffer_before (sym q ∙ s.kept.answer)

  image_in_front : (d : DoneAs s n) → take n s.buffer_after ≡ image d.account
  image_in_front d = image_written s.memory s.lots s.lot s.account s.buffer_before (rw q at s.kept) d

  -- where a length is answered, so many first bytes of the buffer are what was written
  pub first_bytes : Wrote s (take n s.buffer_after)
  first_bytes =
      let long : length (take n s.buffer_after) ≡ n = ap length (image_in_front done_as) ∙ sym done_as.long in
      record { length_answered = q ∙ ap Ok (sym long); in_front = ap (λ k. take k s.buffer_after) long }

module _ {s : SaveCall} {written : List ℕ} (w : Wrote s written) where
  done : DoneAs s (length written)
  done = done_as s w.length_answered

  is_image : written ≡ image done.account
  is_image = sym w.in_front ∙ image_in_front s w.length_answered done

-- so two lots that hold the same account, in whichever memories, are saved as the same bytes
pub same_account_same_image : {s t : SaveCall} {x y : List ℕ} → Wrote s x → Wrote t y → view_of s.memory s.lot ≡ view_of t.memory t.lot → x ≡ y
same_account_same_image v w e = let p : (done v).account ≡ (done w).account = cc ((done v).here.held, (done w).here.held) in is_image v ∙ ap image p ∙ sym (is_image w)

-- and lots that are saved as the same bytes hold the same account
pub same_image_same_account : {s t : SaveCall} {x : List ℕ} → Wrote s x → Wrote t x → view_of s.memory s.lot ≡ view_of t.memory t.lot
unfolding view_of
same_image_same_account {s} {t} v w =
    let p = save_load (holds_well_formed (lot_of s.memory s.lot) (done v).here.held) [] in
    let q = save_load (holds_well_formed (lot_of t.memory t.lot) (done w).here.held) [] in
    let e : (done v).account ≡ (done w).account = cc (p, q, is_image v, is_image w) in
    (done v).here.held ∙ ap holds e ∙ sym (done w).here.held

-- ---- a saved image loads to the account it was saved from

-- a standby that was just started has room for any account
pub started_has_room : {m m' : List ℕ} {lots : ℕ} → Started m m' lots (Ok tt) → (account : ℕ) → RoomFor m' lots account
unfolding start_answer memory_fits
started_has_room {m} {m'} {lots} w account = go (memory_fits lots m) refl w.answer
  where
    never : (i : ℕ) → i < lots → (v : Lot) → view_of m' i ≡ v → is_free v ≡ false → ⊥
    never i h v e q = let z : ◌≡◌ {A = ℕ} 0 1 = no_way (sym q ∙ ap is_free (sym e ∙ w.freed.each i h)) in omega arith

    go : (t : Bool) → memory_fits lots m ≡ t → Ok (tt {0}) ≡ (if t then Ok (tt {0}) else Err NoSuchLot) → RoomFor m' lots account
    go false x e = no_way cc
    go true x e =
        record {
          fits = rw w.freed.long x;
          not_open = λ i h a v n. never i h (holds a) v refl;
          free_lot = 0;
          is_there = leb-true 1 lots (nth _ x 0);
          lot_is_free = w.freed.each 0 (leb-true 1 lots (nth _ x 0));
          none_damaged = λ i h v. never i h damaged v refl;
        }

not_of : (account : ℕ) (v : Lot) → ((a : Account) → v ≡ holds a → a.number ≢ account) → is_of account v ≡ false
not_of account free h = refl
not_of account damaged h = refl
not_of account (holds a) h = ne_eqb a.number account (h a refl)

not_damaged : (v : Lot) → v ≢ damaged → is_damaged v ≡ false
not_damaged free h = refl
not_damaged damaged h = absurd (h refl)
not_damaged (holds a) h = refl

abbrev free_in : List ℕ → ℕ → Bool
free_in m i = is_free (view_of m i)

module _ {m : List ℕ} {lots account : ℕ} (room : RoomFor m lots account) where
  some_free : some_below (free_in m) lots ≡ true
  some_free = one_passes (free_in m) lots room.free_lot room.is_there (ap is_free room.lot_is_free)

  -- data that show the account are loaded into the free lot with the lowest number
  loads_there : (given : List ℕ) {a : Account} → load given ≡ Some a → a.number ≡ account → load_answer m lots given ≡ Ok (lowest_below (free_in m) lots)
  unfolding load_answer place_for
  loads_there given shows own =
      let whole = none_passes (λ i. is_damaged (view_of m i)) lots (λ i h. not_damaged (view_of m i) (room.none_damaged i h)) in
      let unknown = none_passes (λ i. is_of account (view_of m i)) lots (λ i h. not_of account (view_of m i) (room.not_open i h)) in
      rw (room.fits, whole, shows, own, unknown, some_free)

pub saved_image_loads : (s : SaveCall) (l : LoadCall) {written : List ℕ} → Wrote s written → EndsWith l.given written → RoomFor l.memory_before l.lots s.account → LoadedBack s l
unfolding view_of
saved_image_loads s l w e room =
    let d = done w in
    let shows : load l.given ≡ Some d.account = ap load (e.ends ∙ ap (λ x. e.front ++ x) (is_image w)) ∙ save_load (holds_well_formed (lot_of s.memory s.lot) d.here.held) e.front in
    let answered = l.kept.answer ∙ loads_there room l.given shows d.here.numbered in
    let becomes = loaded_as l answered d.account shows in
    record {
      lot = lowest_below (free_in l.memory_before) l.lots;
      answered = answered;
      lowest_free = lowest (free_in l.memory_before) l.lots (some_free room);
      account = d.account;
      saved_from = d.here.held;
      loaded_to = becomes.1;
      elsewhere = becomes.0;
    }

-- ---- an accepted image saves to the same bytes

pub accepted_image_saves : (l : LoadCall) (s : SaveCall) → SaveOfLoaded l s → SavedBack l s
accepted_image_saves l s p =
    let o = loading l.memory_before l.lots l.given l.kept.answer p.loaded in
    let a = o.account in
    let held : view_of s.memory s.lot ≡ holds a = p.unchanged ∙ (loaded_as l p.loaded a o.shows).1 in
    let answer : s.answer ≡ Ok (length (image a)) = s.kept.answer ∙ save_with_room s.memory s.lots s.lot s.account s.buffer_before p.there held (p.own_account a held) p.room in
    let x = (loads_exactly l.given a).0 o.shows in
    let d : DoneAs s (length (image a)) = record { account = a; here = record { there = p.there; held = held; numbered = p.own_account a held }; long = refl } in
    record {
      written = image a;
      wrote = record { length_answered = answer; in_front = image_in_front s answer d };
      same_bytes = record { front = x.front; ends = x.ends };
    }

-- ---- load reads no more than the image

-- data that agree on such last bytes are answered alike, and leave the same
pub load_reads_no_more : {last : List ℕ} → WholeImage last → (front other_front : List ℕ) {m m' : List ℕ} {lots : ℕ} {r : Result ℕ Refusal} → AccountLoaded m m' lots (front ++ last) r → AccountLoaded m m' lots (other_front ++ last) r
unfolding load_answer numbers_of
load_reads_no_more {last} w front other_front {m} {m'} {lots} {r} c =
    let e = reads_no_more front other_front last w.trailer w.as_many in
    record { answer = rw (← e) c.answer; loaded = go r c.loaded e }
  where
    go : (r : Result ℕ Refusal) → LoadedAs m m' (front ++ last) r → load (front ++ last) ≡ load (other_front ++ last) → LoadedAs m m' (other_front ++ last) r
    go (Ok i) c e = λ a q. c a (e ∙ q)
    go (Err x) c e = c
