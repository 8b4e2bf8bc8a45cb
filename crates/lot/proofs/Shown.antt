-- What each section of a lot shows of an account; a head that is written with its numbers shows them. Assumes nothing.
use Prim.Native.Nat.{ℕ, ◌+◌, ◌*◌, ◌<◌}
use mathlib.Core.Path.{◌≡◌, ap}
use mathlib.Core.Bool.{true}
use mathlib.Core.List.{List}
use lib.ListN.{get_or, drop}
use Rattle.wire.specs.Numbers.{number16}
use Rattle.model.specs.Account.{Account}
use Rattle.model.specs.Decoding.{counters_of, mine}
use Rattle.model.proofs.ByStream.{Sorted}
use Rattle.model.specs.Section.{items, plain}
use Rattle.lot.specs.Layout.{head_of, streams_of, places_of, records_of, OPEN}
use Rattle.lot.specs.View.{tag_of, number_of, fragments_of, keys_of, count_of, closed_of, record_at}
use Rattle.lot.specs.Head.{numbers_of, numbers_with, head_bytes}
use Rattle.lot.proofs.Heads.{head_tag, head_zero, head_numbers_law}

-- the head: the account's numbers, and n, how many entries are held
pub record HeadShows (h : List ℕ) (n : ℕ) (a : Account) : Type 0 where
  pub tag : tag_of h ≡ OPEN
  pub number : number_of h ≡ a.number
  pub fragments : fragments_of h ≡ a.fragments
  pub zero_byte : get_or h 7 0 ≡ 0
  pub keys : keys_of h ≡ a.keys
  pub count : count_of h ≡ n
  pub closed : closed_of h ≡ a.closed

-- the streams: the counters of each
pub record StreamsShow (s : List ℕ) (a : Account) : Type 0 where
  pub counters : (i : ℕ) → i < a.fragments → counters_of (drop (i * 8) s) ≡ (a.at i).counters
  pub zero_bytes : (i : ℕ) → i < a.fragments → number16 s (i * 8 + 2) ≡ 0

-- the first n places: the entries that each stream holds, by stream
pub record PlacesShow (p : List ℕ) (n : ℕ) (a : Account) : Type 0 where
  pub held : (i : ℕ) → i < a.fragments → mine i (items n p) ≡ (a.at i).held
  pub sorted : Sorted a.fragments (items n p)
  pub plain_places : plain n p ≡ true

-- the records inside f and k
abbrev pub RecordsShow : List ℕ → Account → Type 0
RecordsShow r a = (i k : ℕ) → i < a.fragments → k < a.keys → record_at r i k ≡ (a.at i).records k

pub record Shows (h s p r : List ℕ) (a : Account) : Type 0 where
  pub count : ℕ
  pub head : HeadShows h count a
  pub streams : StreamsShow s a
  pub places : PlacesShow p count a
  pub records : RecordsShow r a

abbrev pub LotShows : List ℕ → Account → Type 0
LotShows l a = Shows (head_of l) (streams_of l) (places_of l) (records_of l) a

-- ---- the head of an account a, of which n entries are held: so the closed epoch steps, and the count changes with the places

module _ (n : ℕ) (a : Account) where
  pub head_shown : HeadShows (head_bytes (numbers_with n a)) n a
  unfolding numbers_of
  head_shown =
      let m = numbers_with n a in
      let e = head_numbers_law m in
      record { tag = head_tag m; number = ap (λ x. x.number) e; fragments = ap (λ x. x.fragments) e; zero_byte = head_zero m; keys = ap (λ x. x.keys) e; count = ap (λ x. x.held) e; closed = ap (λ x. x.closed) e }

  pub shown_numbers : {h : List ℕ} → HeadShows h n a → numbers_of h ≡ numbers_with n a
  unfolding numbers_of
  shown_numbers w = λ t. record { number = w.number t; fragments = w.fragments t; keys = w.keys t; held = w.count t; closed = w.closed t }
