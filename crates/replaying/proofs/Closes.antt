-- What a close prints: the epoch that is now closed, then its pieces in the order of the list. Assumes nothing.
use Rattle.std.specs.Prelude.{Option, Some, None, Result, Ok, Err}
use Rattle.std.specs.Result.{result_ok}
use Rattle.std.specs.Simd.{first_chunks}
use Prim.Native.Nat.{ℕ, suc, ◌*◌, ◌≤◌}
use mathlib.Core.Path.{◌≡◌, refl, ap, sym, ◌∙◌}
use mathlib.Core.Bool.{true}
use mathlib.Core.List.{List, ◌++◌}
use native.Mathlib.Omega.{arith}
use lib.ListN.{length, take, drop, length-append}
use Rattle.model.specs.Account.{Account, Named, refused, found}
use Rattle.model.specs.Closing.{close, listed, pairs, LEAST_LIST, judge_room, close_judged, close_from}
use Rattle.model.specs.Image.{each}
use Rattle.model.specs.declared.Refusal.{Refusal}
use Rattle.model.proofs.Tests.{no_way}
use Rattle.epoch.proofs.Listing.{length_numbers}
use Rattle.lots.specs.Memory.{memory_fits, lot_fits, named}
use Rattle.lots.proofs.Named.{Holder, holder}
use Rattle.standby.specs.Closing as standby
use Rattle.standby.specs.Closing.{EpochClosed}
use Rattle.overview.specs.Overview.{row_at}
use Rattle.overview.specs.declared.Row.{Row}
use Rattle.lines.specs.Lines.{epoch_line}
use Rattle.replaying.proofs.Pairs.{lines_of_pieces}
use Rattle.replaying.specs.Replaying.{closed_text, close_answer, LotClosed, NextClosed, pair_text}

-- ---- the answer

judged_count : (o : Result (Unit {0}) Refusal) (n count : ℕ) → close_judged o n ≡ Ok count → count ≡ n
judged_count (Ok tt) n count e = cc
judged_count (Err r) n count e = no_way cc

-- what `ok` tells of an answer
pub counted_law : (r : Result ℕ Refusal) {count : ℕ} → Some count ≡ result_ok r → r ≡ Ok count
counted_law (Ok n) e = cc
counted_law (Err why) e = no_way cc

refused_law : (r : Result ℕ Refusal) → None ≡ result_ok r → (why : Refusal) × (r ≡ Err why)
refused_law (Ok n) e = no_way cc
refused_law (Err why) e = (why, refl)

pub same_fit : (m m' : List ℕ) → length m' ≡ length m → lot_fits 1 0 m' ≡ lot_fits 1 0 m
unfolding lot_fits memory_fits
same_fit m m' e = rw e

module _ {m m' list list' : List ℕ} (number : ℕ) {r : Result ℕ Refusal} (w : EpochClosed m m' 1 0 number list list' r) (long : length list ≡ LEAST_LIST) where
  answered : r ≡ close_answer m number
  unfolding standby.close_answer
  answered = w.answer ∙ ap (close_from (named m 1 0 number)) long

  pub not_closed : {out : Option (List ℕ)} → None ≡ result_ok r → out ≡ None → NextClosed m m' number out
  not_closed {out} none p =
      let q = refused_law r none in
      let s : close_answer m number ≡ Err q.0 = sym answered ∙ q.1 in
      record { closed = rw s (rw q.1 at w.closed).0; printed = rw s p }

  -- the account of which an epoch was closed
  pub record Of (count : ℕ) : Type 0 where
    pub account : Account
    pub is_named : named m 1 0 number ≡ found account
    pub counted : count ≡ length (listed account)
    pub pieces : list' ≡ pairs (listed account) ++ drop (2 * count) list
    pub row : (row_at m' 1 0).closed ≡ suc account.closed
    pub left : LotClosed m m' (Ok count)

  pub closed_of_law : {count : ℕ} → r ≡ Ok count → Of count
  unfolding row_at close
  closed_of_law {count} e = go (named m 1 0 number) refl (sym answered ∙ e) (rw e at w.closed)
    where
      go : (n : Named) → named m 1 0 number ≡ n → close_from n LEAST_LIST ≡ Ok count → standby.ClosedAs m m' 0 list list' (Ok count) → Of count
      go (refused why) q s t = no_way cc
      go (found a) q s t =
          let h : Holder m 1 0 number a = holder m 1 0 number q in
          let after = t.1 a h.held in
          let fit : lot_fits 1 0 m' ≡ true = same_fit m m' t.0.long ∙ h.there in
          record {
            account = a;
            is_named = q;
            counted = judged_count (judge_room a LEAST_LIST) (length (listed a)) count s;
            pieces = after.1;
            row = rw (fit, after.0);
            left = (t.0, λ b v. (t.1 b v).0);
          }

  pub count_fits : {count : ℕ} → r ≡ Ok count → length list' ≡ LEAST_LIST → count ≤ 256
  count_fits {count} e h =
      let o = closed_of_law e in
      omega (arith, h, ap length o.pieces ∙ length-append (pairs (listed o.account)) (drop (2 * count) list), length_numbers (listed o.account), o.counted)

  pub epoch_printed : {between out : List ℕ} {parts : List (List ℕ)} {count k : ℕ} {row : Row} → r ≡ Ok count → row ≡ row_at m' 1 0 → between ≡ epoch_line row.closed count
      → count ≤ k → parts ≡ first_chunks 2 k list' → out ≡ between ++ each pair_text (take count parts) → NextClosed m m' number (Some out)
  unfolding closed_text
  epoch_printed {between} {out} {parts} {count} {k} {row} e there first low pieces second =
      let o = closed_of_law e in
      let s : close_answer m number ≡ Ok count = sym answered ∙ e in
      let line : epoch_line row.closed count ≡ epoch_line (suc o.account.closed) (length (listed o.account)) =
      ap (λ x. epoch_line x.closed count) there ∙ ap (λ n. epoch_line n count) o.row ∙ ap (epoch_line (suc o.account.closed)) o.counted in
      record { closed = rw s o.left; printed = rw (s, o.is_named) (ap Some (second ∙ rw (first ∙ line, lines_of_pieces (drop (2 * count) list) (listed o.account) o.counted o.pieces low pieces))) }
