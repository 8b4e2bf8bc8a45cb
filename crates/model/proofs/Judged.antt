-- What it says of an entry and of a close that the judgement answers Ok. Assumes nothing.
use Prim.Native.Nat.{ℕ, zero, suc, ◌<◌}
use mathlib.Core.Path.{◌≡◌, refl, ap}
use mathlib.Core.Bool.{Bool, true, false, not, ◌&&◌}
use native.Mathlib.Omega.{arith}
use native.Mathlib.Decide.{dec_lt}
use lib.Dec.{leb, eqb}
use borrow.Author.Tests.{ltb-true, leb-false, eqb-true, not-false}
use Rattle.std.specs.Prelude.{if◌then◌else◌, Result, Ok, Err}
use Rattle.model.specs.Lists.{sum_below, one, count_below}
use Rattle.model.specs.Entry.{is_mark, fits, inside, in_account}
use Rattle.model.specs.Distance.{distance, below_zero, above_zero}
use Rattle.model.specs.Account.{Account, held_count, MOST_HELD}
use Rattle.model.specs.Stages.{stage, takes}
use Rattle.model.specs.Taking.{judge_entry}
use Rattle.model.specs.Closing.{missing, judge_close}
use Rattle.model.specs.declared.Entry.{Entry}
use Rattle.model.specs.declared.Refusal.{Refusal}
use Rattle.model.proofs.Tests.{nth, no_way}

-- ---- an entry that is taken

pub record TakenFacts (a : Account) (e : Entry) : Type 0 where
  pub fit : fits e ≡ true
  pub within : inside a.fragments a.keys e ≡ true
  pub fragment : e.fragment < a.fragments
  -- a mark's number is the epoch that is open
  pub mark : is_mark e ≡ true → e.transaction ≡ (a.at e.fragment).counters.epoch
  -- any other entry is of a kind that its transaction's stage takes, and has a place
  pub stage : is_mark e ≡ false → takes e.kind (stage e.transaction (a.at e.fragment).held) ≡ true
  pub room : is_mark e ≡ false → held_count a < MOST_HELD

passes : (b : Bool) (r : Refusal) (o : Result (Unit {0}) Refusal) → (if b then Err r else o) ≡ Ok tt → (b ≡ false) × (o ≡ Ok tt)
passes true r o q = no_way cc
passes false r o q = (refl, q)

and_fails : (b c : Bool) → (b && c) ≡ false → b ≡ true → c ≡ false
and_fails true c q p = q
and_fails false c q p = no_way p

pub own_fragment : (f k : ℕ) (e : Entry) → inside f k e ≡ true → e.fragment < f
unfolding inside in_account
own_fragment f k e w = ltb-true e.fragment f (nth _ w 0)

pub taken_facts : (a : Account) (e : Entry) → judge_entry a e ≡ Ok tt → TakenFacts a e
unfolding judge_entry
taken_facts a e d =
    let s = a.at e.fragment in
    let c = distance e.sequence s.counters.next in
    let p₁ = passes (not (fits e)) _ _ d in
    let p₂ = passes (not (inside a.fragments a.keys e)) _ _ p₁.1 in
    let p₃ = passes (below_zero c) _ _ p₂.1 in
    let p₄ = passes (above_zero c) _ _ p₃.1 in
    let p₅ = passes (is_mark e && not (eqb e.transaction s.counters.epoch)) _ _ p₄.1 in
    let p₆ = passes (not (is_mark e) && not (takes e.kind (stage e.transaction s.held))) _ _ p₅.1 in
    let p₇ = passes (not (is_mark e) && leb MOST_HELD (held_count a)) _ _ p₆.1 in
    let w = not-false (inside a.fragments a.keys e) p₂.0 in
    record {
      fit = not-false (fits e) p₁.0;
      within = w;
      fragment = own_fragment a.fragments a.keys e w;
      mark = λ m. eqb-true e.transaction s.counters.epoch (not-false _ (and_fails (is_mark e) _ p₅.0 m));
      stage = λ m. not-false _ (and_fails (not (is_mark e)) _ p₆.0 (ap not m));
      room = λ m. leb-false MOST_HELD (held_count a) (and_fails (not (is_mark e)) _ p₇.0 (ap not m));
    }

-- ---- a close that is possible

none_below : (p : ℕ → Bool) (n : ℕ) → count_below p n ≡ 0 → (i : ℕ) → i < n → p i ≡ false
unfolding sum_below
none_below p zero c i l = absurd (omega arith)
none_below p (suc n) c i l = go (dec_lt i n) (none_below p n (omega arith) i)
  where
    no_one : (b : Bool) → one b ≡ 0 → b ≡ false
    no_one true q = absurd (omega arith)
    no_one false q = refl

    go : Dec (i < n) → (i < n → p i ≡ false) → p i ≡ false
    go (yes k) ih = ih k
    go (no k) ih = let q : i ≡ n = omega arith in rw q (no_one (p n) (omega arith))

-- every stream has taken the mark of the epoch after the last closed one
pub all_marked : (a : Account) → judge_close a ≡ Ok tt → (i : ℕ) → i < a.fragments → suc a.closed < (a.at i).counters.epoch
unfolding judge_close missing
all_marked a d i l = leb-false _ _ (none_below (missing a) a.fragments (go (eqb (count_below (missing a) a.fragments) 0) _ refl d) i l)
  where
    go : (b : Bool) (r : Refusal) → eqb (count_below (missing a) a.fragments) 0 ≡ b → (if b then Ok (tt {0}) else Err r) ≡ Ok (tt {0}) → count_below (missing a) a.fragments ≡ 0
    go true r q e = eqb-true _ 0 q
    go false r q e = no_way cc
