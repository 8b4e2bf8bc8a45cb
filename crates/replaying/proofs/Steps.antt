-- The calls of the program make the step of the page: what they write out is its text, and the lot holds its account. Assumes nothing.
use Rattle.std.specs.Prelude.{Option, Some, None, Result, Ok, Err}
use Prim.Native.Nat.{ℕ}
use mathlib.Core.Path.{◌≡◌, refl, sym, subst, ◌∙◌}
use mathlib.Core.Bool.{true}
use mathlib.Core.List.{List, [], ◌++◌}
use borrow.Author.Tests.{eq-eqb}
use lib.ListN.{length}
use Rattle.model.specs.declared.Refusal.{Refusal}
use Rattle.model.specs.Account.{Account, found}
use Rattle.model.specs.Entry.{entry_of}
use Rattle.model.specs.Taking.{judge, taken}
use Rattle.model.specs.Closing.{judge_close, close, listed, judge_room, close_judged}
use Rattle.lot.specs.View.{holds}
use Rattle.lots.specs.Memory.{lot_fits, view_of, OnlyLot, named}
use Rattle.lots.proofs.Named.{holder}
use Rattle.standby.specs.Calls.{deliver_answer, TakenBy}
use Rattle.replaying.specs.declared.Refused.{Refused}
use Rattle.replaying.specs.declared.Refused.TheVariants as refused
use Rattle.replaying.specs.Replaying.{refused_line, entry_told, EntryDelivered, closed_text, close_text, LotClosed, NextClosed}
use Rattle.replaying.specs.Steps as steps
use Rattle.replaying.specs.Steps.{Closings, Step, CloseCalls, EntryCalls, stuck, closes, stop, again, printed, silent}
use Rattle.replaying.proofs.Closes.{same_fit}

-- ---- the lot

module _ (number : ℕ) where
  -- after a write in the lot it holds an account of the same number
  still_named : (m m' : List ℕ) {a b : Account} → named m 1 0 number ≡ found a → b.number ≡ a.number → OnlyLot 0 m m' → view_of m' 0 ≡ holds b → named m' 1 0 number ≡ found b
  unfolding named
  still_named m m' {a} {b} here same only view =
      let h = holder m 1 0 number here in
      let fit : lot_fits 1 0 m' ≡ true = same_fit m m' only.long ∙ h.there in
      rw (fit, view, eq-eqb b.number number (same ∙ h.numbered))

  -- the page's closings of an account, and the lot afterwards
  pub record Leads (a : Account) (text m' : List ℕ) : Type 0 where
    pub account : Account
    pub closings : Closings a text account
    pub there : named m' 1 0 number ≡ found account

  -- one call
  close_one : (m m' : List ℕ) {out : Option (List ℕ)} {a : Account} → named m 1 0 number ≡ found a → NextClosed m m' number out
      → (o : Result (Unit {0}) Refusal) → judge_close a ≡ o → LotClosed m m' (close_judged o (length (listed a))) × (out ≡ close_text (close_judged o (length (listed a))) (found a))
  unfolding judge_room
  close_one m m' {a = a} here w o e = (rw (here, e) at w.closed, rw (here, e) at w.printed)

  number_closed : (a : Account) → (close a).number ≡ a.number
  unfolding close
  number_closed a = refl

  stops : (m m' : List ℕ) {a : Account} → named m 1 0 number ≡ found a → NextClosed m m' number None → (o : Result (Unit {0}) Refusal) → judge_close a ≡ o → Leads a [] m'
  stops m m' {a = a} here w (Ok tt) e = absurd (cc ((close_one m m' here w (Ok tt) e).1))
  stops m m' {a = a} here w (Err r) e =
      record { account = a; closings = stuck (λ d. cc); there = rw (close_one m m' here w (Err r) e).0 here }

  -- an epoch that is closed and told
  pub record Told (a : Account) (m' out : List ℕ) : Type 0 where
    pub judged : judge_close a ≡ (Ok tt)
    pub text : out ≡ closed_text a
    pub there : named m' 1 0 number ≡ found (close a)

  pub told : (m m' : List ℕ) {out : List ℕ} {a : Account} → named m 1 0 number ≡ found a → NextClosed m m' number (Some out) → Told a m' out
  told m m' {out} {a} here w = go (judge_close a) refl
    where
      go : (o : Result (Unit {0}) Refusal) → judge_close a ≡ o → Told a m' out
      go (Ok tt) e =
          let c = close_one m m' here w (Ok tt) e in
          record { judged = e; text = cc (c.1); there = still_named m m' here (number_closed a) c.0.0 (c.0.1 a (holder m 1 0 number here).held) }
      go (Err r) e = absurd (cc ((close_one m m' here w (Err r) e).1))

  pub close_calls : {m m' text : List ℕ} {a : Account} → CloseCalls number m text m' → named m 1 0 number ≡ found a → Leads a text m'
  close_calls {a = a} (stop {m} {m'} w) here = stops m m' here w (judge_close a) refl
  close_calls {a = a} (again {m} {m'} {text = text} w rest) here =
      let t = told m m' here w in
      let l = close_calls rest t.there in
      let Gives : List ℕ → Type 0 = λ printed. Closings a (printed ++ text) l.account in
      record { account = l.account; closings = subst Gives (sym t.text) (closes t.judged l.closings); there = l.there }

  -- ---- an entry

  module _ (index : ℕ) (bytes : List ℕ) where
    -- the page's step of an account, and the lot afterwards
    pub record Stepped (a : Account) (text m' : List ℕ) : Type 0 where
      pub account : Account
      pub step : Step index bytes a text account
      pub there : named m' 1 0 number ≡ found account

    answer_is_law : (m : List ℕ) {a : Account} → named m 1 0 number ≡ found a → deliver_answer m 1 0 number bytes ≡ judge a bytes
    unfolding deliver_answer
    answer_is_law m here = rw here

    deliver_one : (m m' : List ℕ) {out : Result (Unit {0}) Refused} {a : Account} → named m 1 0 number ≡ found a → EntryDelivered m m' number index bytes out
        → (o : Result (Unit {0}) Refusal) → judge a bytes ≡ o → TakenBy m m' 0 bytes o × (out ≡ entry_told index o)
    deliver_one m m' here w o e = let s = answer_is_law m here ∙ e in (rw s at w.delivered.taken, rw s at w.told)

    number_taken : (a : Account) → (taken (entry_of bytes) a).number ≡ a.number
    unfolding taken
    number_taken a = refl

    prints : (m m' : List ℕ) {why : Refused} {a : Account} → named m 1 0 number ≡ found a → EntryDelivered m m' number index bytes (Err why) → (o : Result (Unit {0}) Refusal) → judge a bytes ≡ o → Stepped a (refused_line why) m'
    prints m m' here w (Ok tt) e = absurd (cc ((deliver_one m m' here w (Ok tt) e).1))
    prints m m' {why} {a} here w (Err r) e =
        let d = deliver_one m m' here w (Err r) e in
        let p : why ≡ refused.Entry index r = cc (d.1) in
        record { account = a; step = rw p (steps.refused e); there = rw d.0 here }

    takes : (m m' : List ℕ) {m'' text : List ℕ} {a : Account} → named m 1 0 number ≡ found a → EntryDelivered m m' number index bytes (Ok tt) → CloseCalls number m' text m''
        → (o : Result (Unit {0}) Refusal) → judge a bytes ≡ o → Stepped a text m''
    takes m m' {a = a} here w rest (Ok tt) e =
        let d = deliver_one m m' here w (Ok tt) e in
        let l = close_calls rest (still_named m m' here (number_taken a) d.0.0 (d.0.1 a (holder m 1 0 number here).held)) in
        record { account = l.account; step = steps.taken e l.closings; there = l.there }
    takes m m' here w rest (Err r) e = absurd (cc ((deliver_one m m' here w (Err r) e).1))

    -- the calls of the program for one entry make the page's step
    pub entry_calls : {m m' text : List ℕ} {a : Account} → EntryCalls number index bytes m text m' → named m 1 0 number ≡ found a → Stepped a text m'
    entry_calls {a = a} (printed {m} {m'} w) here = prints m m' here w (judge a bytes) refl
    entry_calls {a = a} (silent {m} {m'} w rest) here = takes m m' here w rest (judge a bytes) refl
