-- The judgement of a close, from a look at the lot: what may be read, and a law for each answer. Assumes nothing.
use Rattle.std.specs.Prelude.{Result, Err}
use Prim.Native.Nat.{ℕ, zero, suc, ◌+◌, ◌<◌, ◌≤◌}
use mathlib.Core.Path.{◌≡◌, refl, sym, ap, ◌∙◌}
use mathlib.Core.List.{List}
use native.Mathlib.Omega.{arith}
use lib.ListN.{get_or, drop}
use lib.Seq.{get_or-take, get_or-drop}
use borrow.Author.Tests.{leb-true, lt-ltb, le-ltb}
use Rattle.wire.specs.Numbers.{number32}
use Rattle.model.specs.Lists.{one, count_below, bits_of}
use Rattle.model.specs.Account.{Account, account_fits}
use Rattle.model.specs.Closing.{missing, judge_close, judge_room}
use Rattle.model.specs.declared.Refusal.TheVariants.{TooShort}
use Rattle.model.proofs.Tests.{nth}
use Rattle.model.proofs.Sums.{sum_same}
use Rattle.model.specs.declared.Refusal.{Refusal}
use Rattle.lot.specs.Layout.{streams_of}
use Rattle.lot.specs.View.{holds, view_lot}
use Rattle.lot.specs.declared.Account as numbers
use Rattle.lot.proofs.Views.{holds_well_formed}
use Rattle.lot.specs.Look.{Looked}
use Rattle.lot.proofs.Looked.{looked_held, known}
use Rattle.epoch.specs.Missing.{missing_in, MissingMarks}
use Rattle.epoch.proofs.Bits.{epoch_is}
use Rattle.closing.specs.Closing.{MarksJudged, Judged}

-- ---- 16

module _ (l : List ℕ) (room : ℕ) where
  pub too_short : room < 512 → Judged l room (Err TooShort)
  unfolding judge_room
  too_short h a v = rw (lt-ltb room 512 h)

  pub long_enough : {r : Result (Unit {0}) Refusal} → 512 ≤ room → MarksJudged l r → Judged l room r
  unfolding judge_room
  long_enough h w a v = w a v ∙ rw (le-ltb room 512 h)

-- ---- the next epoch is a number of four bytes

pub stream_bytes : (l : List ℕ) → ((i : ℕ) → get_or l i 0 < 256) → (i : ℕ) → i < 64 → get_or (streams_of l) i 0 < 256
stream_bytes l b i q = rw (get_or-take 64 (drop 16 l) i 0 q, get_or-drop 16 l i 0) (b (16 + i))

module _ (l : List ℕ) {n : numbers.Account} (k : Looked l n) where
  pub next_epoch : ((i : ℕ) → i < 64 → get_or (streams_of l) i 0 < 256) → n.closed < 4294967295
  unfolding account_fits number32
  next_epoch b =
      let h = looked_held l k.seen in
      let a = h.account in
      let w = known k a h.holds_it in
      let f = holds_well_formed l h.holds_it in
      let some : 0 < a.fragments = leb-true 1 a.fragments (nth _ f.fits 2) in
      let e = sym (ap (λ c. c.epoch) (w.streams.counters 0 some)) ∙ epoch_is (streams_of l) 0 in
      rw w.numbers_are (omega (arith, f.opened 0 some, e, b 4 (omega arith), b 5 (omega arith), b 6 (omega arith), b 7 (omega arith)))

  -- ---- 12

  pub few_fragments : n.fragments ≤ 8
  few_fragments =
      let h = looked_held l k.seen in
      let w = known k h.account h.holds_it in
      rw w.numbers_are w.few

  module _ (a : Account) (v : view_lot l ≡ holds a) where
    each : (i : ℕ) → i < a.fragments → missing_in (streams_of l) n.closed i ≡ missing a i
    unfolding missing_in missing
    each i q = let w = known k a v in rw (w.numbers_are, w.streams.counters i q)

    bits_same : (p q : ℕ → _) (f : ℕ) → ((i : ℕ) → i < f → p i ≡ q i) → bits_of p f ≡ bits_of q f
    unfolding bits_of
    bits_same p q zero w = refl
    bits_same p q (suc f) w = rw (w f (omega arith), bits_same p q f (λ i h. w i (omega arith)))

    fragments_are : n.fragments ≡ a.fragments
    fragments_are = ap (λ x. x.fragments) (known k a v).numbers_are

    bits_are : bits_of (missing_in (streams_of l) n.closed) a.fragments ≡ bits_of (missing a) a.fragments
    bits_are = bits_same (missing_in (streams_of l) n.closed) (missing a) a.fragments each

    many_are : count_below (missing_in (streams_of l) n.closed) a.fragments ≡ count_below (missing a) a.fragments
    many_are = sum_same (λ i. one (missing a i)) (λ i. one (missing_in (streams_of l) n.closed i)) a.fragments (λ i q. ap one (each i q))

  pub marks_are : {r : Result (Unit {0}) Refusal} → MissingMarks (streams_of l) n.closed n.fragments r → MarksJudged l r
  unfolding judge_close
  marks_are m a v = m ∙ rw (fragments_are a v, bits_are a v, many_are a v)
