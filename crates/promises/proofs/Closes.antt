-- Demand 2, closing: at each close the pieces installed, the list given and every record are the model's. Assumes nothing.
use Prim.Native.Nat.{ℕ, ◌*◌}
use mathlib.Core.Path.{◌≡◌, refl, sym, ap, ◌∙◌}
use mathlib.Core.Bool.{Bool, true, false}
use mathlib.Core.List.{List, [], ◌∷◌, ◌++◌}
use native.Mathlib.Omega.{arith}
use lib.Dec.{ltb}
use lib.ListN.{length, drop}
use lib.Seq.{drop_at}
use Rattle.std.specs.Prelude.{if◌then◌else◌, Result, Ok, Err}
use Rattle.model.specs.Account.{Account, Named, refused, found}
use Rattle.model.specs.Closing.{Piece, judge_close, close, listed, close_from, pairs, LEAST_LIST, judge_room, close_judged, close_of}
use Rattle.model.specs.declared.Refusal.TheVariants.{TooShort}
use Rattle.model.proofs.Tests.{no_way}
use Rattle.model.specs.declared.Refusal.{Refusal}
use Rattle.lots.specs.Memory.{named}
use Rattle.standby.specs.Closing.{EpochClosed, close_answer}
use Rattle.promises.specs.Runs as runs
use Rattle.promises.specs.Runs.{Step, closes, close_epoch}
use Rattle.promises.specs.Own.{first_pieces}
use Rattle.promises.specs.Holding.{Holding}
use Rattle.promises.specs.Closes.{ClosedByModel}
use Rattle.promises.proofs.Answered.{same_account, read_answered}

-- ---- the list of a close, read back

pieces_back : (ps : List Piece) (rest : List ℕ) → first_pieces (length ps) (pairs ps ++ rest) ≡ ps
unfolding first_pieces pairs
pieces_back [] rest = refl
pieces_back (p ∷ ps) rest = ap (λ l. p ∷ l) (pieces_back ps rest)

pairs_length : (ps : List Piece) → length (pairs ps) ≡ 2 * length ps
unfolding pairs
pairs_length [] = refl
pairs_length (p ∷ ps) = omega (arith, pairs_length ps)

-- ---- the close

-- a close that is done was possible, and counts the pieces
judged_close : (a : Account) (room : ℕ) {count : ℕ} → Ok count ≡ close_of a room → (judge_close a ≡ Ok tt) × (count ≡ length (listed a))
unfolding judge_room
judged_close a room {count} e = go (ltb room LEAST_LIST) (judge_close a) refl e
  where
    go : (b : Bool) (o : Result (Unit {0}) Refusal) → judge_close a ≡ o → Ok count ≡ close_judged (if b then Err TooShort else o) (length (listed a)) → (judge_close a ≡ Ok tt) × (count ≡ length (listed a))
    go true o q e = no_way cc
    go false (Ok _) q e = (q, cc)
    go false (Err r) q e = no_way cc

module _ (m : List ℕ) {number lot : ℕ} {a : Account} (h : Holding number lot m a) where
  pub closed_by_model : {lots count : ℕ} {list list' m' : List ℕ} → EpochClosed m m' lots lot number list list' (Ok count) → ClosedByModel number lot a count list list' m'
  unfolding close_answer close
  closed_by_model {lots} {count} {list} {list'} {m'} w = go (named m lots lot number) refl w.answer
    where
      go : (n : Named) → named m lots lot number ≡ n → Ok count ≡ close_from n (length list) → ClosedByModel number lot a count list list' m'
      go (refused s) q e = no_way cc
      go (found b) q e =
          let j = judged_close a (length list) (e ∙ ap (λ c. close_of c (length list)) (same_account m lots lot number h.held q)) in
          let left = w.closed.1 a h.held in
          record {
            possible = j.0;
            held = left.0;
            counted = j.1;
            pieces = rw (left.1, j.1) (pieces_back (listed a) (drop (2 * length (listed a)) list));
            later = ap (drop (2 * count)) left.1 ∙ drop_at (pairs (listed a)) (drop (2 * count) list) (2 * count) (pairs_length (listed a) ∙ ap (λ n. 2 * n) (sym j.1));
            records = λ {lots} {i} {k} x s. (read_answered lots lot number i k x s left.0).value;
          }

-- a close of any account in its lot
pub close_is_the_models : {m m' : List ℕ} {number lot lots count : ℕ} {list list' : List ℕ} {a : Account} → Holding number lot m a → Step m (close_epoch lots lot number list) (runs.closed (Ok count) list') m' → ClosedByModel number lot a count list list' m'
close_is_the_models {m} h (closes w) = closed_by_model m h w
