-- The sections of a lot after a close, by the model.
use Rattle.std.specs.Prelude.{Option, ℕ, suc, ◌*◌, ◌<◌, ◌≤◌, ◌≡◌, true, List, ◌++◌, map, length, drop}
use Rattle.model.specs.Lists.{upward}
use Rattle.model.specs.Account.{Held}
use Rattle.model.specs.Closing.{upto, Verdict as ModelVerdict, verdict, committed, pieces, survivors, apply, Piece, pairs}
use Rattle.model.specs.Decoding.{mine}
use Rattle.model.specs.declared.Counters.{Counters}
use Rattle.model.proofs.ByStream.{Sorted}
use Rattle.model.specs.Section.{plain, section_fits, items}
use Rattle.lot.specs.View.{record_at}
use Rattle.verdicts.specs.declared.Verdict.{Verdict}
use Rattle.verdicts.specs.Verdicts.{held_in, Verdicts}

-- ---- what is closed: the n places of h, of f streams, after the closed epoch c

pub record Fits (f c n : ℕ) (h : List ℕ) : Type 0 where
  pub keys : ℕ
  pub counters : List Counters
  pub few : f ≤ 8
  pub small : keys ≤ 128
  pub all : length counters ≡ f
  pub fit : section_fits keys c counters n h ≡ true

-- with records and list, each long enough
pub record Closable (h r l : List ℕ) (f n c : ℕ) : Type 0 where
  pub places : length h ≡ 5120
  pub records : length r ≡ 5120
  pub long : 512 ≤ length l
  pub most : n ≤ 256
  pub next : c < 4294967295
  pub fits : Fits f c n h

module _ (h : List ℕ) (n e : ℕ) where
  -- of stream i: the entries looked at, the verdicts and the pieces
  abbrev pub looked_in : ℕ → List Held
  looked_in i = upto e (held_in h n i)

  abbrev pub verdict_in : ℕ → ℕ → ModelVerdict
  verdict_in i = verdict (committed e (held_in h n)) (looked_in i)

  abbrev pub pieces_in : ℕ → List ℕ
  pieces_in i = pieces (verdict_in i) (looked_in i)

  unfoldable pub listed_in : ℕ → List Piece
  listed_in f = upward f 0 (λ i. map (λ t. record { fragment = i; transaction = t }) (pieces_in i))

-- ---- what installing leaves: records r' and list l'; it answers p pieces, and the verdict on each place

pub record Installed (f c n : ℕ) (h r r' l l' : List ℕ) (p : ℕ) (answers : List (Option Verdict)) : Type 0 where
  pub counted : p ≡ length (listed_in h n (suc c) f)
  pub listed : l' ≡ pairs (listed_in h n (suc c) f) ++ drop (p * 2) l
  pub records : (i k : ℕ) → i < f → k < 128 → record_at r' i k ≡ apply (pieces_in h n (suc c) i) k (looked_in h n (suc c) i) (record_at r i k)
  pub verdicts : Verdicts answers h n (suc c)

-- ---- what then stays held: the n' places of h'

pub record StaysHeld (f c n : ℕ) (h h' : List ℕ) (n' : ℕ) : Type 0 where
  pub held : (i : ℕ) → mine i (items n' h') ≡ survivors (suc c) (verdict_in h n (suc c) i) (mine i (items n h))
  pub sorted : Sorted f (items n' h')
  pub plain_places : plain n' h' ≡ true
