-- The worked case of docs/RULES.md and its starred lines, computed from the definitions. Assumes nothing.
use Rattle.std.specs.Prelude.{Result, Ok, Err}
use Prim.Native.Nat.{ℕ, zero, suc}
use mathlib.Core.Path.{◌≡◌, refl}
use mathlib.Core.Bool.{Bool, true, false, not, ◌&&◌}
use mathlib.Core.List.{List, [], ◌∷◌, ◌++◌, map}
use lib.ListN.{length}
use lib.IntN.{ℤ, pos, negsuc}
use Rattle.wire.specs.Numbers.{bytes16, bytes32}
use Rattle.model.specs.Lists.{filter, any, upward, every, sum_below, bits_of}
use Rattle.model.specs.Entry.{PUT, P, CC, CP, MARK, fields_fit, fits, in_account, inside}
use Rattle.model.specs.Distance.{distance}
use Rattle.model.specs.Account.{absent, Account, account_fits, fresh, held_count}
use Rattle.model.specs.Stages.{stage_after, stage_from, takes}
use Rattle.model.specs.Taking.{judge_entry, stepped, hold, take, taken}
use Rattle.model.specs.Closing.{missing, judge_close, upto, verdict, committed, pieces, left, survivors, after_writes, apply, settle, close, Piece, installed, listed}
use Rattle.model.specs.Image.{Present, Item, shown, form, stream8, record8, held20, each, trailer24, body, bytes, image}
use Rattle.model.specs.Answers.{outcome_numbers, refusal_numbers}
use Rattle.model.specs.Runs.{Step, taking, closing, run, lists, Allowed}
use Rattle.model.specs.declared.Entry.{Entry}
use Rattle.model.specs.declared.Refusal.TheVariants.{UnfitAccount}
use Rattle.model.proofs.Tests.{no_way, and_l, and_r}
use Rattle.model.specs.declared.Refusal.{Refusal}

-- ---- entries: fragment i, sequence number q

abbrev pub put : ℕ → ℕ → ℕ → ℕ → ℕ → Entry
put i q t key value = record { kind = PUT; fragment = i; sequence = q; transaction = t; argument = key; spare = 0; value = value }

abbrev pub prepare : ℕ → ℕ → ℕ → ℕ → Entry
prepare i q t coordinator = record { kind = P; fragment = i; sequence = q; transaction = t; argument = coordinator; spare = 0; value = 0 }

abbrev pub commit : ℕ → ℕ → ℕ → ℕ → Entry
commit kind i q t = record { kind = kind; fragment = i; sequence = q; transaction = t; argument = 0; spare = 0; value = 0 }

abbrev pub mark : ℕ → ℕ → ℕ → Entry
mark i q n = record { kind = MARK; fragment = i; sequence = q; transaction = n; argument = 0; spare = 0; value = 0 }

-- account 7, f = 2, k = 4
abbrev pub start : Account
start = fresh 7 2 4

abbrev pub piece : ℕ → ℕ → Piece
piece i t = record { fragment = i; transaction = t }

abbrev pub present_at : ℕ → ℕ → ℕ → Present
present_at i key value = record { fragment = i; key = key; value = value }

-- ---- runs in which each entry is taken, and which close exactly while they can

abbrev pub done : Result (Unit {0}) Refusal → Bool
done (Ok _) = true
done (Err r) = false

unfoldable pub served : List Step → Account → Bool
served [] a = not (done (judge_close a))
served (taking e ∷ ss) a = not (done (judge_close a)) && (done (judge_entry a e) && served ss (taken e a))
served (closing ∷ ss) a = done (judge_close a) && served ss (close a)

is_done_law : (o : Result (Unit {0}) Refusal) → done o ≡ true → o ≡ Ok tt
is_done_law (Ok _) e = refl
is_done_law (Err r) e = no_way e

served_allowed : (ss : List Step) (a : Account) → served ss a ≡ true → Allowed ss a
unfolding served Allowed
served_allowed [] a w = tt
served_allowed (taking e ∷ ss) a w =
    let r = and_r (not (done (judge_close a))) _ w in
    (is_done_law _ (and_l (done (judge_entry a e)) _ r), served_allowed ss (taken e a) (and_r (done (judge_entry a e)) _ r))
served_allowed (closing ∷ ss) a w = (is_done_law _ (and_l (done (judge_close a)) _ w), served_allowed ss (close a) (and_r (done (judge_close a)) _ w))

-- ---- what is compared

pub data Fact : Type 0 where
  -- the signed distance, and deliver's number
  distance_is : ℤ → ℕ → Fact
  -- how many entries are held, and deliver's number
  answer_is : ℕ → ℕ → Fact
  -- of a run from account 7, f = 2, k = 4: that it is served, what its closes list, the records and the held entries at its end
  run_is : Bool → List (List Piece) → List Present → List Item → Fact
  length_is : ℕ → Fact
  -- whether account number, f and k fit, and the number of the refusal
  account_fits_is : Bool → ℕ → Fact

abbrev pub run_of : List Step → Fact
run_of ss = run_is (served ss start) (lists ss start) (form (run ss start)).records (form (run ss start)).held

abbrev pub answer_after : List Step → Entry → Fact
answer_after ss e = answer_is (held_count (run ss start)) (outcome_numbers (judge_entry (run ss start) e)).number

-- ---- the worked case

abbrev pub worked : List Step
worked =
    taking (put 0 0 1 0 10) ∷ taking (commit CC 0 1 1) ∷ taking (mark 0 2 1) ∷ taking (mark 0 3 2)
    ∷ taking (put 1 0 1 2 30) ∷ taking (prepare 1 1 1 0) ∷ taking (put 1 2 2 3 40) ∷ taking (mark 1 3 1) ∷ closing
    ∷ taking (commit CP 1 4 1) ∷ taking (commit CC 1 5 2) ∷ taking (mark 1 6 2) ∷ closing ∷ []

pub worked_is : run_of worked ≡ run_is true ((piece 0 1 ∷ piece 1 1 ∷ []) ∷ (piece 1 2 ∷ []) ∷ []) (present_at 0 0 10 ∷ present_at 1 2 30 ∷ present_at 1 3 40 ∷ []) []
unfolding served run lists listed installed form shown upward judge_entry judge_close missing fresh taken take stepped hold close settle committed verdict upto filter any survivors left pieces apply after_writes stage_after stage_from takes fits fields_fit inside in_account every distance sum_below bits_of held_count
worked_is = refl

pub worked_allowed : Allowed worked start
worked_allowed = served_allowed worked start (cc worked_is)

-- ---- on either side of the line

-- an account whose streams expect the number n
abbrev pub expecting : ℕ → Account
expecting n = record { number = 7; fragments = 2; keys = 4; closed = 0; at = λ i. record { counters = record { next = n; epoch = 1 }; held = []; records = λ k. absent } }

-- of a mark with the received number
abbrev pub received : ℕ → ℕ → Fact
received expected number = distance_is (distance number expected) (outcome_numbers (judge_entry (expecting expected) (mark 0 number 1))).number

-- n puts of transaction 1 in stream 0, from number q on
unfoldable pub puts : ℕ → ℕ → List Step
puts zero q = []
puts (suc n) q = taking (put 0 q 1 0 5) ∷ puts n (suc q)

-- P in epoch 1, CC in epoch 2
abbrev pub late_commit : List Step
late_commit =
    taking (mark 0 0 1) ∷ taking (put 0 1 1 0 10) ∷ taking (commit CC 0 2 1) ∷ taking (mark 0 3 2)
    ∷ taking (put 1 0 1 2 30) ∷ taking (prepare 1 1 1 0) ∷ taking (mark 1 2 1) ∷ closing ∷ taking (mark 1 3 2) ∷ closing ∷ []

-- P and CC in epoch 1, up to close 1; and then CP in epoch 2
abbrev pub flagging : List Step
flagging =
    taking (put 0 0 1 0 10) ∷ taking (commit CC 0 1 1) ∷ taking (mark 0 2 1) ∷ taking (mark 0 3 2)
    ∷ taking (put 1 0 1 2 30) ∷ taking (prepare 1 1 1 0) ∷ taking (mark 1 2 1) ∷ closing ∷ []

abbrev pub freeing : List Step
freeing = flagging ++ taking (commit CP 1 3 1) ∷ taking (mark 1 4 2) ∷ closing ∷ []

-- the P of transaction 1, flagged
abbrev pub flagged_prepare : Item
flagged_prepare = record { stream = 1; entry = record { kind = P; transaction = 1; argument = 0; value = 0; flagged = true; epoch = 1 } }

-- what the definitions compute, and what docs/RULES.md says
pub record Line : Type 0 where
  pub computed : Fact
  pub said : Fact

infix 70 ◌says◌
abbrev pub ◌says◌ : Fact → Fact → Line
x says y = record { computed = x; said = y }

abbrev pub starred_lines : List Line
starred_lines =
    -- Expected 0: 65,535 is -1, seen;
    received 0 65535 says distance_is (negsuc 0) 7
    -- 32,768 is -32,768, seen;
    ∷ received 0 32768 says distance_is (negsuc 32767) 7
    -- 32,767 is a gap.
    ∷ received 0 32767 says distance_is (pos 32767) 8
    -- Expected 65,535, received 0: 1, a gap.
    ∷ received 65535 0 says distance_is (pos 1) 8
    -- CP unheard: 10.
    ∷ answer_after [] (commit CP 1 0 1) says answer_is 0 10
    -- P with c = own fragment: 6.
    ∷ answer_after [] (prepare 1 0 1 1) says answer_is 0 6
    -- 255 held: an entry is taken;
    ∷ answer_after (puts 255 0) (put 1 0 2 0 5) says answer_is 255 0
    -- 256: 11,
    ∷ answer_after (puts 256 0) (put 1 0 2 0 5) says answer_is 256 11
    -- yet a mark is taken.
    ∷ answer_after (puts 256 0) (mark 1 0 1) says answer_is 256 0
    -- P in epoch 1, CC in epoch 2: close 1 installs neither piece, close 2 both.
    ∷ run_of late_commit says run_is true ([] ∷ (piece 0 1 ∷ piece 1 1 ∷ []) ∷ []) (present_at 0 0 10 ∷ present_at 1 2 30 ∷ []) (flagged_prepare ∷ [])
    -- P and CC in epoch 1, CP in epoch 2: close 1 installs;
    ∷ run_of flagging says run_is true ((piece 0 1 ∷ piece 1 1 ∷ []) ∷ []) (present_at 0 0 10 ∷ present_at 1 2 30 ∷ []) (flagged_prepare ∷ [])
    -- close 2 frees the flagged P and applies nothing.
    ∷ run_of freeing says run_is true ((piece 0 1 ∷ piece 1 1 ∷ []) ∷ [] ∷ []) (present_at 0 0 10 ∷ present_at 1 2 30 ∷ []) []
    -- f = 1, fresh: the image has 32 bytes.
    ∷ length_is (length (image (fresh 7 1 4))) says length_is 32
    -- f = 9: 15.
    ∷ account_fits_is (account_fits 7 9 4) (refusal_numbers UnfitAccount).number says account_fits_is false 15
    ∷ []

pub starred : map (λ l. l.computed) starred_lines ≡ map (λ l. l.said) starred_lines
unfolding puts served run lists listed installed form shown upward judge_entry judge_close missing account_fits fresh taken take stepped hold close settle committed verdict upto filter any survivors left pieces apply after_writes stage_after stage_from takes fits fields_fit inside in_account every distance sum_below bits_of held_count image bytes body each stream8 record8 held20 trailer24 bytes16 bytes32
starred = refl
