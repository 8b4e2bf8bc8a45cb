-- The judgement from a look at a lot: a law for each of its answers. Assumes nothing.
use Rattle.std.specs.Prelude.{Bool, ℤ, if◌then◌else◌, Result, Ok, Err}
use Rattle.model.specs.Distance.{distance, below_zero, above_zero}
use Prim.Native.Nat.{ℕ, ◌+◌, ◌*◌, ◌≤◌, ◌<◌}
use mathlib.Core.Path.{◌≡◌, ◌∙◌}
use mathlib.Core.Bool.{true, false}
use mathlib.Core.List.{List}
use native.Mathlib.Omega.{arith}
use lib.ListN.{length, drop}
use borrow.Author.Tests.{eq-eqb, ne_eqb}
use Rattle.model.specs.Entry.{LENGTH, entry_of, fits, inside}
use Rattle.model.specs.Account.{Held}
use Rattle.model.specs.Taking.{judge_entry, judge}
use Rattle.model.specs.Decoding.{counters_of, mine}
use Rattle.model.specs.Section.{items}
use Rattle.model.specs.declared.Entry.{Entry}
use Rattle.model.specs.declared.Counters.{Counters}
use Rattle.model.specs.declared.Refusal.TheVariants.{WrongLength, Unfit, OutsideAccount, Seen, Gap}
use Rattle.model.proofs.Tests.{no_way}
use Rattle.model.proofs.Judged.{own_fragment}
use Rattle.model.specs.declared.Refusal.{Refusal}
use Rattle.entry.specs.Sequence.{sequence_of}
use Rattle.lot.specs.Layout.{streams_of, places_of}
use Rattle.lot.specs.declared.Account as numbers
use Rattle.lot.proofs.Lengths.{length_streams}
use Rattle.lot.specs.Look.{Looked}
use Rattle.lot.proofs.Looked.{looked_held, known}
use Rattle.taking.specs.Delivering.{judge_due, judge_inside, EntryJudged, Judged}

-- ---- 7 and 8, by the counters of the stream

pub fragment_fits : (l : List ℕ) {n : numbers.Account} → Looked l n → (i : ℕ) → i < n.fragments → i * 8 + 8 ≤ length (streams_of l)
fragment_fits l {n} k i q =
    let h = looked_held l k.seen in
    let w = known k h.account h.holds_it in
    let few : n.fragments ≤ 8 = rw w.numbers_are w.few in
    omega (arith, length_streams l k.size)

module _ (c : Counters) (hs : List Held) (n : ℕ) (e : Entry) where
  abbrev d : ℤ
  d = distance e.sequence c.next

  pub not_due : {r : Refusal} → Err r ≡ sequence_of e.sequence c.next → Err r ≡ judge_inside c hs n e
  unfolding judge_inside sequence_of
  not_due {r} q = go (below_zero d) (above_zero d) _ q
    where
      go : (b a : Bool) (o : Result (Unit {0}) Refusal) → Err r ≡ (if b then Err Seen else if a then Err Gap else Ok (tt {0})) → Err r ≡ (if b then Err Seen else if a then Err Gap else o)
      go true a o q = q
      go false true o q = q
      go false false o q = no_way cc

-- ---- 4

module _ (l bytes : List ℕ) where
  pub wrong_length : (length bytes ≡ LENGTH → ⊥) → Judged l bytes (Err WrongLength)
  unfolding judge
  wrong_length q a v = rw (ne_eqb (length bytes) LENGTH q)

  pub of_entry : {r : Result (Unit {0}) Refusal} → length bytes ≡ LENGTH → EntryJudged l (entry_of bytes) r → Judged l bytes r
  unfolding judge
  of_entry q w a v = rw (eq-eqb (length bytes) LENGTH q) (w a v)

-- ---- 5 to 11

module _ (l : List ℕ) (e : Entry) where
  pub unfit : fits e ≡ false → EntryJudged l e (Err Unfit)
  unfolding judge_entry
  unfit q a v = rw q

  module _ {n : numbers.Account} (k : Looked l n) (fit : fits e ≡ true) where
    pub outside : inside n.fragments n.keys e ≡ false → EntryJudged l e (Err OutsideAccount)
    unfolding judge_entry
    outside q a v = let o = rw (known k a v).numbers_are at q in rw (fit, o)

    module _ (q : inside n.fragments n.keys e ≡ true) where
      pub within : e.fragment < n.fragments
      within = own_fragment n.fragments n.keys e q

      pub judged : {r : Result (Unit {0}) Refusal} → r ≡ judge_inside (counters_of (drop (e.fragment * 8) (streams_of l))) (mine e.fragment (items n.held (places_of l))) n.held e → EntryJudged l e r
      unfolding judge_entry judge_inside judge_due
      judged d a v =
          let w = known k a v in
          let m = rw w.numbers_are at q in
          let i = own_fragment a.fragments a.keys e m in
          d ∙ rw (w.numbers_are, w.streams.counters e.fragment i, w.places.held e.fragment i, fit, m)
