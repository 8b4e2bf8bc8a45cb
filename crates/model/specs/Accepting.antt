-- What load accepts: data that ends with the image of a well-formed account.
use Rattle.std.specs.Prelude.{ℕ, ◌<◌, ◌≤◌, ◌≡◌, Bool, true, not, ◌&&◌, ◌||◌, List, [], ◌∷◌, ◌++◌, leb, ltb, eqb}
use Rattle.model.specs.Lists.{every, all}
use Rattle.model.specs.Entry.{P, CC, A, fields_fit, in_account}
use Rattle.model.specs.Account.{Held, absent, Account, empty, account_fits, held_count, MOST_HELD}
use Rattle.model.specs.Stages.{stage, is_unheard, takes}
use Rattle.model.specs.Image.{image}
use Rattle.model.specs.declared.Stage.{Stage}

-- a held entry of stream i is no mark and passes 5 and 6 of deliver but for byte 11 (f fragments, k keys)
unfoldable pub entry_fits : ℕ → ℕ → ℕ → Held → Bool
entry_fits f k i h = every (leb h.kind A ∷ fields_fit h.kind h.transaction h.argument h.value ∷ in_account f k h.kind i h.argument ∷ [])

-- h comes after the entries hs held before it in its stream, its transaction then at stage s (c: the closed epoch, o: the stream's open one)
unfoldable pub follows : ℕ → ℕ → List Held → Stage → Held → Bool
follows c o hs s h =
    every (
    -- held epochs from 1 to the stream's open epoch, not falling within a stream
    leb 1 h.epoch ∷ leb h.epoch o ∷ all (λ g. leb g.epoch h.epoch) hs
    -- each transaction's entries in the order of the table
    ∷ takes h.kind s
    -- every end entry later than the closed epoch
    ∷ (ltb h.kind CC || ltb c h.epoch)
    -- a flag only on P, of an epoch already closed, with no writes held
    ∷ (not h.flagged || eqb h.kind P && leb h.epoch c && is_unheard s)
    ∷ []
    )

-- the entries of one stream, each after those before it
unfoldable pub stream_fits : ℕ → ℕ → ℕ → ℕ → ℕ → List Held → List Held → Bool
stream_fits f k i c o before [] = true
stream_fits f k i c o before (h ∷ hs) = (entry_fits f k i h && follows c o before (stage h.transaction before) h) && stream_fits f k i c o (before ++ h ∷ []) hs

pub record WellFormed (a : Account) : Type 0 where
  -- account number, f and k in range
  pub fits : account_fits a.number a.fragments a.keys ≡ true
  -- at most 256 held
  pub room : held_count a ≤ MOST_HELD
  -- each open epoch above the closed one
  pub opened : (i : ℕ) → i < a.fragments → a.closed < (a.at i).counters.epoch
  pub streams : (i : ℕ) → i < a.fragments → stream_fits a.fragments a.keys i a.closed (a.at i).counters.epoch [] (a.at i).held ≡ true
  -- outside f and k there is nothing
  pub no_fragment : (i : ℕ) → a.fragments ≤ i → a.at i ≡ empty
  pub no_key : (i k : ℕ) → a.keys ≤ k → (a.at i).records k ≡ absent

pub record Accepted (given : List ℕ) (a : Account) : Type 0 where
  pub well_formed : WellFormed a
  -- longer data may stand before the image
  pub front : List ℕ
  pub ends : given ≡ front ++ image a
