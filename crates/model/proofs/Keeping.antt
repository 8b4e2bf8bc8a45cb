-- Whatever the calls leave is well-formed: a fresh account, and after it every entry that is taken and every close. Assumes nothing.
use Prim.Native.Nat.{ℕ, suc, ◌<◌, ◌≤◌}
use mathlib.Core.Path.{◌≡◌, refl, sym, ap}
use mathlib.Core.Logic.{⊎_elim}
use mathlib.Core.Bool.{Bool, true, false, ◌&&◌, ◌||◌}
use mathlib.Core.List.{List, [], ◌∷◌, ◌++◌}
use native.Mathlib.Omega.{arith}
use native.Mathlib.Decide.{dec_lt}
use lib.ListN.{length, length-append}
use lib.Dec.{leb, ltb, eqb}
use borrow.Author.Tests.{eq-eqb, ne_eqb, eqb-true, leb-true, le-leb, ltb-true, eqb-false}
use Rattle.std.specs.Prelude.{if◌then◌else◌, Ok}
use Rattle.model.specs.Lists.{filter, any, every}
use Rattle.model.specs.Entry.{is_mark, fields_fit, fits, in_account, inside, MARK, A, DELETE, P}
use Rattle.model.specs.Account.{Held, key, Record, absent, Account, empty, account_fits, fresh, held_count, MOST_HELD}
use Rattle.model.specs.Taking.{judge_entry, stepped, hold, take, taken}
use Rattle.model.specs.Closing.{judge_close, upto, Verdict, free, install, flag, stay, committed, pieces, left, survivors, writes_to, written, after_writes, apply, settle, close}
use Rattle.model.specs.Accepting.{entry_fits, stream_fits, WellFormed}
use Rattle.model.specs.Runs.{Step, taking, closing, run, Allowed}
use Rattle.model.specs.declared.Entry.{Entry}
use Rattle.model.proofs.Tests.{no_way, and_l, and_r, either, nth, any_none, in_filter}
use Rattle.model.proofs.Judged.{TakenFacts, taken_facts, all_marked}
use Rattle.model.proofs.Sums.{sum_same, sum_most, sum_one, sum_none}
use Rattle.model.proofs.KeptByClose.{fits_in, fits_close, fits_raised, fits_held}

-- ---- opening

pub fresh_well_formed : (number f k : ℕ) → account_fits number f k ≡ true → WellFormed (fresh number f k)
unfolding fresh held_count stream_fits
fresh_well_formed number f k w = record {
  fits = w;
  room = omega (arith, sum_none f);
  opened = λ i l. omega arith;
  streams = λ i l. refl;
  no_fragment = λ i l. refl;
  no_key = λ i k l. refl;
}

-- ---- an entry that is taken

no_mark : (e : Entry) → fits e ≡ true → is_mark e ≡ false → e.kind ≤ A
unfolding fits fields_fit
no_mark e w m = omega (arith, eqb-false e.kind MARK m, leb-true e.kind MARK (nth _ (and_r (eqb e.spare 0) _ w) 1))

entry_fits_law : {a : Account} {e : Entry} → TakenFacts a e → is_mark e ≡ false → (j n : ℕ) → e.fragment ≡ j → entry_fits a.fragments a.keys j (hold e n) ≡ true
unfolding entry_fits hold every fits inside
entry_fits_law {a} {e} t m j n z = rw (le-leb e.kind A (no_mark e t.fit m), and_r (eqb e.spare 0) _ t.fit, ← z, t.within)

pub taken_well_formed : {a : Account} (e : Entry) → WellFormed a → judge_entry a e ≡ Ok tt → WellFormed (taken e a)
unfolding taken take stepped held_count
taken_well_formed {a} e s d = record {
  fits = s.fits;
  room = room (is_mark e) refl;
  opened = λ j l. opened j l (eqb e.fragment j) (is_mark e) refl;
  streams = λ j l. streams j l (eqb e.fragment j) refl (is_mark e) refl;
  no_fragment = λ j l. rw (ne_eqb e.fragment j (λ z. omega (arith, t.fragment))) (s.no_fragment j l);
  no_key = λ j k l. no_key j k l (eqb e.fragment j);
}
  where
    t : TakenFacts a e
    t = taken_facts a e d

    long : ℕ → ℕ
    long j = length (a.at j).held

    open_now : ℕ → ℕ
    open_now j = (a.at j).counters.epoch

    room : (m : Bool) → is_mark e ≡ m → held_count (taken e a) ≤ MOST_HELD
    room true q = omega (arith, s.room, sum_same long (λ j. length ((taken e a).at j).held) a.fragments (λ j l. same j (eqb e.fragment j)))
      where
        same : (j : ℕ) (b : Bool) → length (if b then take (a.at j) e else a.at j).held ≡ length (a.at j).held
        same j true = rw q
        same j false = refl
    room false q = omega (arith, t.room q, sum_one long (λ j. length ((taken e a).at j).held) e.fragment a.fragments one (λ j n. rw (ne_eqb e.fragment j n)) t.fragment)
      where
        one : length ((taken e a).at e.fragment).held ≡ suc (length (a.at e.fragment).held)
        one = rw (eq-eqb e.fragment e.fragment refl, q) (omega (arith, length-append (a.at e.fragment).held (hold e (open_now e.fragment) ∷ [])))

    opened : (j : ℕ) → j < a.fragments → (b m : Bool) → is_mark e ≡ m → a.closed < (if b then take (a.at j) e else a.at j).counters.epoch
    opened j l true true q = rw q (omega (arith, s.opened j l))
    opened j l true false q = rw q (s.opened j l)
    opened j l false m q = s.opened j l

    streams : (j : ℕ) → j < a.fragments → (b : Bool) → eqb e.fragment j ≡ b → (m : Bool) → is_mark e ≡ m
        → stream_fits a.fragments a.keys j a.closed (if b then take (a.at j) e else a.at j).counters.epoch [] (if b then take (a.at j) e else a.at j).held ≡ true
    streams j l true p true q = rw q (fits_raised a.fragments a.keys j a.closed (open_now j) [] (a.at j).held (s.streams j l))
    streams j l true p false q =
        let z = eqb-true e.fragment j p in
        rw q (fits_held a.fragments a.keys j a.closed (open_now j) (a.at j).held e (s.opened j l) (s.streams j l) (entry_fits_law t q j (open_now j) z) (rw z at (t.stage q)))
    streams j l false p m q = s.streams j l

    no_key : (j k : ℕ) → a.keys ≤ k → (b : Bool) → (if b then take (a.at j) e else a.at j).records k ≡ absent
    no_key j k l true = s.no_key j k l
    no_key j k l false = s.no_key j k l

-- ---- a close

survivors_most : (n : ℕ) (v : ℕ → Verdict) (hs : List Held) → length (survivors n v hs) ≤ length hs
unfolding survivors left
survivors_most n v [] = omega arith
survivors_most n v (h ∷ hs) = go (leb h.epoch n) (v h.transaction) (eqb h.kind P) refl (survivors_most n v hs)
  where
    go : (b : Bool) (u : Verdict) (d : Bool) → eqb h.kind P ≡ d → length (survivors n v hs) ≤ length hs → length ((if b then left u h else h ∷ []) ++ survivors n v hs) ≤ suc (length hs)
    go true free d e r = omega arith
    go true install d e r = omega arith
    go true flag true e r = rw e (omega arith)
    go true flag false e r = rw e (omega arith)
    go true stay d e r = omega arith
    go false u d e r = omega arith

-- a record of a key that nobody writes
module _ (k : ℕ) (x : Record) where
  unwritten : (D : ℕ → Bool) (es : List Held) → any (writes_to k) es ≡ false → after_writes D k es x ≡ x
  unfolding any after_writes
  unwritten D [] n = refl
  unwritten D (h ∷ hs) n = go (writes_to k h) n (unwritten D hs)
    where
      go : (b : Bool) → (b || any (writes_to k) hs) ≡ false → (any (writes_to k) hs ≡ false → after_writes D k hs x ≡ x) → after_writes D k hs (if b && D h.transaction then written h else x) ≡ x
      go true n ih = no_way (sym n)
      go false n ih = ih n

  unchanged : (ts : List ℕ) (es : List Held) → any (writes_to k) es ≡ false → apply ts k es x ≡ x
  unfolding apply
  unchanged [] es n = refl
  unchanged (t ∷ ts) es n = rw (unwritten (λ u. eqb u t) es n) (unchanged ts es n)

key_inside : (f k i : ℕ) (h : Held) → entry_fits f k i h ≡ true → h.kind ≤ DELETE → key h < k
unfolding entry_fits in_account
key_inside f k i h w l = ⊎_elim (λ b. absurd (omega (arith, ltb-true DELETE h.kind b))) (λ b. ltb-true (key h) k b) (either (ltb DELETE h.kind) _ (nth _ (nth _ w 2) 1))

settle_empty : (n : ℕ) (decided : ℕ → ℕ → Bool) → settle n decided empty ≡ empty
unfolding settle survivors upto filter pieces apply
settle_empty n decided = refl

pub closed_well_formed : {a : Account} → WellFormed a → judge_close a ≡ Ok tt → WellFormed (close a)
unfolding close settle upto held_count
closed_well_formed {a} s d = record {
  fits = s.fits;
  room = omega (arith, s.room, sum_most (λ i. length (a.at i).held) (λ i. length ((close a).at i).held) a.fragments (λ i l. survivors_most _ _ (a.at i).held));
  opened = all_marked a d;
  streams = λ i l. fits_close a.fragments a.keys i a.closed (a.at i).counters.epoch decided (a.at i).held (s.streams i l);
  no_fragment = no_fragment;
  no_key = λ i k l. no_key i k l (dec_lt i a.fragments);
}
  where
    decided : ℕ → ℕ → Bool
    decided = committed (suc a.closed) (λ c. (a.at c).held)

    no_fragment : (i : ℕ) → a.fragments ≤ i → (close a).at i ≡ empty
    no_fragment i l = rw (s.no_fragment i l) (settle_empty (suc a.closed) decided)

    no_key : (i k : ℕ) → a.keys ≤ k → Dec (i < a.fragments) → ((close a).at i).records k ≡ absent
    no_key i k l (yes q) =
        rw (s.no_key i k l) (unchanged k absent _ _ (any_none (writes_to k) _ (λ g m w.
        let y = (in_filter (λ h. leb h.epoch (suc a.closed)) (a.at i).held m).0 in
        let u = key_inside a.fragments a.keys i g (fits_in a.fragments a.keys i a.closed (a.at i).counters.epoch (a.at i).held (s.streams i q) y) (leb-true g.kind DELETE (and_l _ _ w)) in
        omega (arith, eqb-true (key g) k (and_r (leb g.kind DELETE) _ w)))))
    no_key i k l (no q) = ap (λ r. r.records k) (no_fragment i (omega arith))

-- ---- any run

pub run_well_formed : {a : Account} (ss : List Step) → WellFormed a → Allowed ss a → WellFormed (run ss a)
unfolding run Allowed
run_well_formed [] w d = w
run_well_formed {a} (taking e ∷ ss) w d = run_well_formed {a = taken e a} ss (taken_well_formed e w d.0) d.1
run_well_formed {a} (closing ∷ ss) w d = run_well_formed {a = close a} ss (closed_well_formed w d.0) d.1
