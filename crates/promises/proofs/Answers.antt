-- Demand 1: every call is answered by the page, and refused exactly when a condition of its order holds, with the first. Assumes nothing.
use Prim.Native.Nat.{ℕ}
use mathlib.Core.Path.{◌≡◌, refl, sym, ap, ◌∙◌}
use mathlib.Core.Bool.{Bool, true, false, not, ◌&&◌, ◌||◌, or-true}
use mathlib.Core.List.{List, [], ◌∷◌, map}
use lib.Dec.{ltb, eqb}
use lib.ListN.{length, get_or}
use borrow.Author.Tests.{eq-eqb}
use Rattle.std.specs.Prelude.{if◌then◌else◌, Option, Some, None, Result, Ok, Err}
use Rattle.model.specs.Lists.{any, count_below, bits_of}
use Rattle.model.specs.Entry.{LENGTH, entry_of, fits, inside}
use Rattle.model.specs.Distance.{below_zero, above_zero}
use Rattle.model.specs.Account.{Record, absent, present, Account, account_fits, held_count, Named, refused, found}
use Rattle.model.specs.Stages.{stage}
use Rattle.model.specs.Taking.{wrong_mark, not_taken, full, judge_entry, judge, deliver_to}
use Rattle.model.specs.Closing.{missing, judge_close, listed, LEAST_LIST, judge_room, close_judged, close_of, close_from}
use Rattle.model.specs.Image.{image, LONGEST_IMAGE}
use Rattle.model.specs.Decoding.{load}
use Rattle.model.specs.Answers.{refusal_numbers, outcome_numbers, opened_numbers, closed_numbers, found_numbers, saved_numbers}
use Rattle.model.specs.declared.Refusal.{Refusal}
use Rattle.model.specs.declared.Refusal.TheVariants.{NoSuchLot, Damaged, NotThisAccount, WrongLength, Unfit, OutsideAccount, Seen, Gap, WrongMark, OutOfTurn, Full, MarkMissing, AlreadyOpen, NoFreeLot, UnfitAccount, TooShort, NotAccepted}
use Rattle.model.proofs.Tests.{no_way}
use Rattle.lot.specs.View.{Lot, free, damaged, holds, account_in}
use Rattle.lot.specs.Writing.{found_of}
use Rattle.lots.specs.Memory.{memory_fits, lot_fits, view_of, is_damaged, is_free, some_below, lowest_below, named}
use Rattle.standby.specs.Calls.{start_answer, place_for, open_answer, deliver_answer, read_from, read_answer, drop_from, drop_answer}
use Rattle.standby.specs.Closing.{close_answer}
use Rattle.standby.specs.Images.{save_from, save_answer, load_from, load_answer}
use Rattle.overview.specs.Overview.{overview_answer}
use Rattle.promises.specs.Runs.{Call, start, open_account, deliver, close_epoch, read_record, save_account, load_account, drop_account, overview, Reply, outcome, opened, closed, found as found-reply, saved, overviewed, reply_numbers, Step, starts, opens, delivers, closes, reads, saves, loads, drops, overviews}
use Rattle.promises.specs.Written.{is_done}
use Rattle.promises.specs.Answers.{order, Known, answer_of, Condition, ◌when◌, is_none, of_shown, free_or_other, already_open, no_free_lot, not_found, received, entry_conditions, close_conditions, outside, conditions, first_met}

-- ---- the reply's numbers are those of the contract

pub answered : {m m' : List ℕ} {c : Call} {r : Reply} → Step m c r m' → reply_numbers r ≡ answer_of m c
unfolding answer_of
answered (starts w) = ap outcome_numbers w.answer
answered (opens w) = ap opened_numbers w.answer
answered (delivers w) = ap outcome_numbers w.answer
answered (closes w) = ap closed_numbers w.answer
answered (reads w) = ap found_numbers w
answered (saves w) = ap saved_numbers w.answer
answered (loads w) = ap opened_numbers w.answer
answered (drops w) = ap outcome_numbers w.answer
answered (overviews w) = ap outcome_numbers w.answer

-- ---- the conditions stand in the page's order

pub in_order_law : (m : List ℕ) (c : Call) → map (λ x. x.number) (conditions m c) ≡ order c
unfolding conditions
in_order_law m (start lots) = refl
in_order_law m (open_account lots number f k) = refl
in_order_law m (deliver lots lot number entry) = refl
in_order_law m (close_epoch lots lot number list) = refl
in_order_law m (read_record lots lot number fragment key) = refl
in_order_law m (save_account lots lot number buffer) = refl
in_order_law m (load_account lots given) = refl
in_order_law m (drop_account lots lot number) = refl
in_order_law m (overview lots rows) = refl

-- ---- 1 goes by the lot count, the lot named and the memory's length alone

pub length_decides : (m₁ m₂ : List ℕ) (c : Call) → length m₂ ≡ length m₁ → get_or (conditions m₂ c) 0 (1 when true) ≡ get_or (conditions m₁ c) 0 (1 when true)
unfolding conditions memory_fits lot_fits
length_decides m₁ m₂ (start lots) e = rw e
length_decides m₁ m₂ (open_account lots number f k) e = rw e
length_decides m₁ m₂ (deliver lots lot number entry) e = rw e
length_decides m₁ m₂ (close_epoch lots lot number list) e = rw e
length_decides m₁ m₂ (read_record lots lot number fragment key) e = rw e
length_decides m₁ m₂ (save_account lots lot number buffer) e = rw e
length_decides m₁ m₂ (load_account lots given) e = rw e
length_decides m₁ m₂ (drop_account lots lot number) e = rw e
length_decides m₁ m₂ (overview lots rows) e = rw e

-- ---- the answer's number is that of the first condition that holds

abbrev of_outcome : Result (Unit {0}) Refusal → ℕ
of_outcome r = (outcome_numbers r).number

abbrev of_opened : Result ℕ Refusal → ℕ
of_opened r = (opened_numbers r).number

abbrev of_closed : Result ℕ Refusal → ℕ
of_closed r = (closed_numbers r).number

-- 1, 2, 3 of a call that names a lot and an account; `g` is the number of what it answers, by what it finds
module _ (m : List ℕ) (lots lot number : ℕ) (g : Named → ℕ) (known : (r : Refusal) → g (refused r) ≡ (refusal_numbers r).number) where
  finding : (cs : List Condition) → ((a : Account) → view_of m lot ≡ holds a → g (found a) ≡ first_met cs) → g (named m lots lot number) ≡ first_met (not_found m lots lot number cs)
  unfolding named first_met
  finding cs rest = go (lot_fits lots lot m) (view_of m lot) refl
    where
      mine : (a : Account) → view_of m lot ≡ holds a → (b : Bool) → g (if b then found a else refused NotThisAccount) ≡ first_met (3 when not b ∷ cs)
      mine a q true = rest a q
      mine a q false = known NotThisAccount

      go : (t : Bool) (v : Lot) → view_of m lot ≡ v → g (if not t then refused NoSuchLot else account_in v number) ≡ first_met (1 when not t ∷ 2 when is_damaged v ∷ 3 when free_or_other number v ∷ cs)
      go false v q = known NoSuchLot
      go true free q = known NotThisAccount
      go true damaged q = known Damaged
      go true (holds a) q = mine a q (eqb a.number number)

-- 4 to 11
judged : (a : Account) (bytes : List ℕ) → of_outcome (judge a bytes) ≡ first_met (entry_conditions (holds a) bytes)
unfolding judge judge_entry first_met
judged a bytes =
    let e = entry_of bytes in
    go (not (eqb (length bytes) LENGTH)) (not (fits e)) (not (inside a.fragments a.keys e)) (below_zero (received a e)) (above_zero (received a e)) (wrong_mark (a.at e.fragment).counters.epoch e) (not_taken (stage e.transaction (a.at e.fragment).held) e) (full (held_count a) e)
  where
    go : (c4 c5 c6 c7 c8 c9 c10 c11 : Bool)
        → of_outcome (
        if c4 then Err WrongLength
        else if c5 then Err Unfit
        else if c6 then Err OutsideAccount
        else if c7 then Err Seen
        else if c8 then Err Gap
        else if c9 then Err WrongMark
        else if c10 then Err OutOfTurn
        else if c11 then Err Full
        else Ok tt
        ) ≡ first_met (4 when c4 ∷ 5 when c5 ∷ 6 when c6 ∷ 7 when c7 ∷ 8 when c8 ∷ 9 when c9 ∷ 10 when c10 ∷ 11 when c11 ∷ [])
    go true c5 c6 c7 c8 c9 c10 c11 = refl
    go false true c6 c7 c8 c9 c10 c11 = refl
    go false false true c7 c8 c9 c10 c11 = refl
    go false false false true c8 c9 c10 c11 = refl
    go false false false false true c9 c10 c11 = refl
    go false false false false false true c10 c11 = refl
    go false false false false false false true c11 = refl
    go false false false false false false false true = refl
    go false false false false false false false false = refl

-- 16 and 12
closed_first : (a : Account) (room : ℕ) → of_closed (close_of a room) ≡ first_met (close_conditions (holds a) room)
unfolding judge_room judge_close first_met
closed_first a room = go (ltb room LEAST_LIST) (eqb (count_below (missing a) a.fragments) 0)
  where
    go : (c16 all : Bool) → of_closed (close_judged (if c16 then Err TooShort else (if all then Ok tt else Err (MarkMissing (bits_of (missing a) a.fragments) (count_below (missing a) a.fragments)))) (length (listed a))) ≡ first_met (16 when c16 ∷ 12 when not all ∷ [])
    go true all = refl
    go false true = refl
    go false false = refl

-- 13 and 14
placed_first : (m : List ℕ) (lots number : ℕ) → of_opened (place_for m lots number) ≡ first_met (13 when already_open m lots number ∷ no_free_lot m lots ∷ [])
unfolding place_for first_met
placed_first m lots number = go (already_open m lots number) (some_below (λ i. is_free (view_of m i)) lots)
  where
    go : (c13 some : Bool) → of_opened (if c13 then Err AlreadyOpen else if some then Ok (lowest_below (λ i. is_free (view_of m i)) lots) else Err NoFreeLot) ≡ first_met (13 when c13 ∷ 14 when not some ∷ [])
    go true b = refl
    go false true = refl
    go false false = refl

pub numbered : (m : List ℕ) (c : Call) → (answer_of m c).number ≡ first_met (conditions m c)
unfolding answer_of conditions first_met start_answer open_answer deliver_answer close_answer read_answer save_answer load_answer drop_answer overview_answer
numbered m (start lots) = go (memory_fits lots m)
  where
    go : (t : Bool) → of_outcome (if t then Ok tt else Err NoSuchLot) ≡ first_met (1 when not t ∷ [])
    go true = refl
    go false = refl
numbered m (open_account lots number f k) = go (memory_fits lots m) (some_below (λ i. is_damaged (view_of m i)) lots) (account_fits number f k)
  where
    go : (t c2 fit : Bool) → of_opened (if not t then Err NoSuchLot else if c2 then Err Damaged else if not fit then Err UnfitAccount else place_for m lots number)
        ≡ first_met (1 when not t ∷ 2 when c2 ∷ 15 when not fit ∷ 13 when already_open m lots number ∷ no_free_lot m lots ∷ [])
    go false c2 fit = refl
    go true true fit = refl
    go true false false = refl
    go true false true = placed_first m lots number
numbered m (deliver lots lot number bytes) = finding m lots lot number (λ x. of_outcome (deliver_to x bytes)) (λ r. refl) (entry_conditions (view_of m lot) bytes) (λ a q. rw q (judged a bytes))
numbered m (close_epoch lots lot number list) = finding m lots lot number (λ x. of_closed (close_from x (length list))) (λ r. refl) (close_conditions (view_of m lot) (length list)) (λ a q. rw q (closed_first a (length list)))
numbered m (read_record lots lot number fragment key) = finding m lots lot number (λ x. (found_numbers (read_from x fragment key)).number) (λ r. refl) (outside (view_of m lot) fragment key ∷ []) (λ a q. rw q (go a (ltb fragment a.fragments && ltb key a.keys) ((a.at fragment).records key)))
  where
    go : (a : Account) (t : Bool) (x : Record) → (found_numbers (if not t then Err OutsideAccount else Ok (found_of x))).number ≡ first_met (6 when not t ∷ [])
    go a false x = refl
    go a true absent = refl
    go a true (present v) = refl
numbered m (save_account lots lot number buffer) = finding m lots lot number (λ x. (saved_numbers (save_from x (length buffer))).number) (λ r. refl) (16 when ltb (length buffer) LONGEST_IMAGE ∷ []) (λ a q. go a (ltb (length buffer) LONGEST_IMAGE))
  where
    go : (a : Account) (c16 : Bool) → (saved_numbers (if c16 then Err TooShort else Ok (length (image a)))).number ≡ first_met (16 when c16 ∷ [])
    go a true = refl
    go a false = refl
numbered m (load_account lots given) = go (memory_fits lots m) (some_below (λ i. is_damaged (view_of m i)) lots) (load given)
  where
    go : (t c2 : Bool) (x : Option Account) → of_opened (if not t then Err NoSuchLot else if c2 then Err Damaged else load_from m lots x)
        ≡ first_met (1 when not t ∷ 2 when c2 ∷ 17 when is_none x ∷ 13 when of_shown x (λ a. already_open m lots a.number) ∷ no_free_lot m lots ∷ [])
    go false c2 x = refl
    go true true x = refl
    go true false None = refl
    go true false (Some a) = placed_first m lots a.number
numbered m (drop_account lots lot number) = go (lot_fits lots lot m) (view_of m lot)
  where
    mine : (b : Bool) → of_outcome (if b then Ok tt else Err NotThisAccount) ≡ first_met (3 when not b ∷ [])
    mine true = refl
    mine false = refl

    go : (t : Bool) (v : Lot) → of_outcome (if not t then Err NoSuchLot else drop_from v number) ≡ first_met (1 when not t ∷ 3 when free_or_other number v ∷ [])
    go false v = refl
    go true free = refl
    go true damaged = refl
    go true (holds a) = mine (eqb a.number number)
numbered m (overview lots rows) = go (memory_fits lots m) (ltb (length rows) lots)
  where
    go : (t c16 : Bool) → of_outcome (if not t then Err NoSuchLot else if c16 then Err TooShort else Ok tt) ≡ first_met (1 when not t ∷ 16 when c16 ∷ [])
    go false c16 = refl
    go true true = refl
    go true false = refl

-- a call is refused with the first of its order whose condition holds, and is done where none does
pub refused_exactly : {m m' : List ℕ} {c : Call} {r : Reply} → Step m c r m' → (reply_numbers r).number ≡ first_met (conditions m c)
refused_exactly {m} {c = c} w = ap (λ n. n.number) (answered w) ∙ numbered m c

-- ---- an answer of the page: 0, or a number of the call's order; the other numbers of a refusal are 0, but for 12

first_listed : (cs : List Condition) → any (eqb (first_met cs)) (0 ∷ map (λ x. x.number) cs) ≡ true
unfolding first_met any
first_listed [] = refl
first_listed (c ∷ cs) = go c.met (first_listed cs)
  where
    skip : (a b d : Bool) → (a || d) ≡ true → (a || (b || d)) ≡ true
    skip true b d e = refl
    skip false true d e = refl
    skip false false d e = e

    go : (b : Bool) → any (eqb (first_met cs)) (0 ∷ map (λ x. x.number) cs) ≡ true → any (eqb (if b then c.number else first_met cs)) (0 ∷ c.number ∷ map (λ x. x.number) cs) ≡ true
    go true e = rw (eq-eqb c.number c.number refl) (or-true (eqb c.number 0))
    go false e = skip (eqb (first_met cs) 0) (eqb (first_met cs) c.number) _ e

pub others_zero : (s : Refusal) → eqb (refusal_numbers s).number 12 ≡ false → ((refusal_numbers s).first ≡ 0) × ((refusal_numbers s).second ≡ 0)
others_zero NoSuchLot e = (refl, refl)
others_zero Damaged e = (refl, refl)
others_zero NotThisAccount e = (refl, refl)
others_zero WrongLength e = (refl, refl)
others_zero Unfit e = (refl, refl)
others_zero OutsideAccount e = (refl, refl)
others_zero Seen e = (refl, refl)
others_zero Gap e = (refl, refl)
others_zero WrongMark e = (refl, refl)
others_zero OutOfTurn e = (refl, refl)
others_zero Full e = (refl, refl)
others_zero (MarkMissing streams count) e = no_way (sym e)
others_zero AlreadyOpen e = (refl, refl)
others_zero NoFreeLot e = (refl, refl)
others_zero UnfitAccount e = (refl, refl)
others_zero TooShort e = (refl, refl)
others_zero NotAccepted e = (refl, refl)

plain : (r : Reply) → is_done r ≡ false → eqb (reply_numbers r).number 12 ≡ false → ((reply_numbers r).first ≡ 0) × ((reply_numbers r).second ≡ 0)
plain (outcome (Ok _)) u e = no_way (sym u)
plain (outcome (Err s)) u e = others_zero s e
plain (opened (Ok i)) u e = no_way (sym u)
plain (opened (Err s)) u e = others_zero s e
plain (closed (Ok n) l) u e = no_way (sym u)
plain (closed (Err s) l) u e = others_zero s e
plain (found-reply (Ok (Some v))) u e = no_way (sym u)
plain (found-reply (Ok None)) u e = no_way (sym u)
plain (found-reply (Err s)) u e = others_zero s e
plain (saved (Ok n) b) u e = no_way (sym u)
plain (saved (Err s) b) u e = others_zero s e
plain (overviewed (Ok _) rows) u e = no_way (sym u)
plain (overviewed (Err s) rows) u e = others_zero s e

pub known_answers : {m m' : List ℕ} {c : Call} {r : Reply} → Step m c r m' → Known c (reply_numbers r)
known_answers {m} {c = c} {r = r} w = record { listed = rw (refused_exactly w, ← in_order_law m c) (first_listed (conditions m c)); others = plain r }
