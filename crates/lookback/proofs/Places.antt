-- What stands at a place of a held section, one place more, and the stage that looking back finds. Assumes nothing.
use Prim.Native.Nat.{ℕ, zero, suc, ◌+◌, ◌*◌, ◌-◌, ◌<◌}
use mathlib.Core.Path.{◌≡◌, refl, sym, ap, ◌∙◌}
use mathlib.Core.Bool.{Bool, true, false, ◌&&◌}
use mathlib.Core.List.{List, [], ◌∷◌, ◌++◌, append-nil}
use native.Mathlib.Omega.{arith}
use native.Mathlib.Nat.{add_assoc, suc-mul}
use lib.Dec.{eqb}
use lib.ListN.{length, get_or, drop}
use lib.Seq.{get_or-drop, drop-drop}
use Rattle.wire.specs.Numbers.{number16, number32}
use Rattle.std.specs.Prelude.{if◌then◌else◌}
use Rattle.model.specs.Decoding.{item_of, parse, mine}
use Rattle.model.specs.Stages.{stage_after, stage_from, stage}
use Rattle.model.specs.declared.Stage.TheVariants.{Unheard}
use Rattle.model.proofs.Tests.{if_ap}
use Rattle.model.proofs.KeptByClose.{stage_snoc}
use Rattle.model.proofs.Forms.{mine_append}
use Rattle.model.specs.Section.{item_at, items}
use Rattle.lookback.specs.Places.{stage_at}
use Rattle.lookback.specs.Last.{last_with, is_of}

-- ---- the fields of a place

module _ (k : ℕ) (l : List ℕ) (at : ℕ) where
  pub number16_drop : number16 (drop k l) at ≡ number16 l (k + at)
  unfolding number16
  number16_drop = simp (get_or-drop, add_assoc)

  pub number32_drop : number32 (drop k l) at ≡ number32 l (k + at)
  unfolding number32
  number32_drop = simp (get_or-drop, add_assoc)

module _ (h : List ℕ) (i : ℕ) where
  pub kind_is : (item_at h i).entry.kind ≡ get_or h (i * 20) 0
  unfolding item_of
  kind_is = let z : i * 20 + 0 ≡ i * 20 = omega arith in get_or-drop (i * 20) h 0 0 ∙ rw z

  pub stream_is : (item_at h i).stream ≡ get_or h (i * 20 + 1) 0
  unfolding item_of
  stream_is = get_or-drop (i * 20) h 1 0

  pub transaction_is : (item_at h i).entry.transaction ≡ number32 h (i * 20 + 4)
  unfolding item_of
  transaction_is = number32_drop (i * 20) h 4

  pub argument_is : (item_at h i).entry.argument ≡ number16 h (i * 20 + 8)
  unfolding item_of
  argument_is = number16_drop (i * 20) h 8

  pub flagged_is : (item_at h i).entry.flagged ≡ eqb (get_or h (i * 20 + 11) 0) 1
  unfolding item_of
  flagged_is = rw (get_or-drop (i * 20) h 11 0)

  pub value_is : (item_at h i).entry.value ≡ number32 h (i * 20 + 12)
  unfolding item_of
  value_is = number32_drop (i * 20) h 12

  pub epoch_is : (item_at h i).entry.epoch ≡ number32 h (i * 20 + 16)
  unfolding item_of
  epoch_is = number32_drop (i * 20) h 16

-- ---- one place more

module _ {X : Type 0} (size : ℕ) (dec : List ℕ → X) where
  pub parse_more : (n : ℕ) (l : List ℕ) → parse (suc n) size dec l ≡ parse n size dec l ++ dec (drop (n * size) l) ∷ []
  unfolding parse
  parse_more zero l = let z : 0 * size ≡ 0 = omega arith in rw z
  parse_more (suc n) l =
      let z : size + n * size ≡ suc n * size = omega (arith, suc-mul n size) in
      rw (parse_more n (drop size l), drop-drop (n * size) size l, z)

  pub length_parse : (n : ℕ) (l : List ℕ) → length (parse n size dec l) ≡ n
  unfolding parse
  length_parse zero l = refl
  length_parse (suc n) l = ap suc (length_parse n (drop size l))

  pub get_or_parse : (d : X) (n : ℕ) (l : List ℕ) (i : ℕ) → i < n → get_or (parse n size dec l) i d ≡ dec (drop (i * size) l)
  unfolding parse
  get_or_parse d zero l i h = absurd (omega arith)
  get_or_parse d (suc n) l zero h = let z : 0 * size ≡ 0 = omega arith in rw z
  get_or_parse d (suc n) l (suc i) h =
      let z : size + i * size ≡ suc i * size = omega (arith, suc-mul i size) in
      get_or_parse d n (drop size l) i (omega arith) ∙ rw (drop-drop (i * size) size l, z)

-- ---- the stage of a transaction is what its last entry makes

pub stage_last : (h : List ℕ) (s t n : ℕ) → stage t (mine s (items n h)) ≡ stage_at h (last_with (is_of h s t) n)
unfolding parse mine stage_from last_with stage_at is_of
stage_last h s t zero = refl
stage_last h s t (suc n) = ap (λ xs. stage t (mine s xs)) (parse_more 20 item_of n h) ∙ ap (stage t) (mine_append s (items n h) (item_at h n ∷ [])) ∙ go (eqb (item_at h n).stream s) (stage_last h s t n)
  where
    go : (b : Bool) → stage t (mine s (items n h)) ≡ stage_at h (last_with (is_of h s t) n)
        → stage t (mine s (items n h) ++ (if b then (item_at h n).entry ∷ [] else [])) ≡ stage_at h (if b && eqb (item_at h n).entry.transaction t then suc n else last_with (is_of h s t) n)
    go true ih = stage_snoc t Unheard (mine s (items n h)) (item_at h n).entry ∙ rw ih (sym (if_ap (stage_at h) (eqb (item_at h n).entry.transaction t) (suc n) (last_with (is_of h s t) n)))
    go false ih = rw (append-nil (mine s (items n h))) ih

pub stage_made : (h : List ℕ) (m : ℕ) → 0 < m → stage_at h m ≡ stage_after (item_at h (m - 1)).entry.kind
unfolding stage_at
stage_made h zero l = absurd (omega arith)
stage_made h (suc i) l = let z : suc i - 1 ≡ i = omega arith in rw z
