-- Bytes written one after the other in a buffer. Assumes nothing.
use Rattle.std.specs.Prelude.{Option, Some}
use Prim.Native.Nat.{ℕ, ◌+◌, ◌≤◌}
use mathlib.Core.Path.{◌≡◌, refl, sym, ap, ◌∙◌}
use mathlib.Core.List.{List, [], ◌++◌, append_assoc, append-nil}
use native.Mathlib.Numerals.{add-one}
use native.Mathlib.Omega.{arith}
use lib.ListN.{length, take, drop, length-append, take-append-drop}
use lib.Seq.{length-take-le, take_at, drop_at, drop-drop}
use Rattle.model.specs.Lists.{upward}
use Rattle.model.specs.Account.{Record, absent, present}
use Rattle.model.specs.Image.{Present, shown, record8, each}
use Rattle.model.proofs.Decode.{record_long}
use Rattle.model.proofs.Tests.{no_way}
use Rattle.lot.specs.Writing.{found_of}
use Rattle.judging.proofs.Parts.{upward_more, each_append}
use Rattle.image.specs.Saving.{written, Written, present_in, fragment_bytes, record_bytes}

module _ (m : List ℕ) (at : ℕ) (room : at ≤ length m) where
  front : length (take at m) ≡ at
  front = length-take-le at m room

  written_more : (x y : List ℕ) → written (written m at x) (at + length x) y ≡ written m at (x ++ y)
  written_more x y =
      let n = at + length x in
      let both : length (take at m ++ x) ≡ n = length-append (take at m) x ∙ rw front in
      let assoc : written m at x ≡ (take at m ++ x) ++ drop n m = sym (append_assoc (take at m) x (drop n m)) in
      let t : take n (written m at x) ≡ take at m ++ x = ap (take n) assoc ∙ take_at (take at m ++ x) (drop n m) n both in
      let d : drop n (written m at x) ≡ drop n m = ap (drop n) assoc ∙ drop_at (take at m ++ x) (drop n m) n both in
      let e : drop (n + length y) (written m at x) ≡ drop (n + length y) m = sym (drop-drop (length y) n (written m at x)) ∙ ap (drop (length y)) d ∙ drop-drop (length y) n m in
      let z : n + length y ≡ at + length (x ++ y) = omega (arith, length-append x y) in
      rw (t, e, z) (append_assoc (take at m) x (y ++ drop (at + length (x ++ y)) m) ∙ ap (λ r. take at m ++ r) (sym (append_assoc x y (drop (at + length (x ++ y)) m))))

  -- nothing is written, and one after the other
  pub write_none : Written m m at at []
  write_none = let z : at + 0 ≡ at = omega arith in record { bytes = rw z (sym (take-append-drop at m)); behind = sym z }

  pub write_more : {m' m'' x y : List ℕ} {e e' : ℕ} → Written m m' at e x → Written m' m'' e e' y → Written m m'' at e' (x ++ y)
  write_more {x = x} {y = y} v w = record { bytes = w.bytes ∙ rw (v.behind, v.bytes) (written_more x y); behind = w.behind ∙ rw (v.behind, length-append x y) (omega arith) }

-- ---- a record

module _ (i k : ℕ) where
  pub shows_present : (y : Record) (v : ℕ) → Some v ≡ found_of y → each record8 (shown i k y) ≡ record8 (record { fragment = i; key = k; value = v })
  unfolding each shown
  shows_present absent v e = no_way cc
  shows_present (present w) v e = let z : w ≡ v = cc in rw z (append-nil (record8 (record { fragment = i; key = k; value = v })))

  pub shows_other : (y : Record) (r : Option ℕ) → r ≡ found_of y → ((v : ℕ) → r ≡ Some v → ⊥) → each record8 (shown i k y) ≡ []
  unfolding each shown
  shows_other absent r e n = refl
  shows_other (present w) r e n = absurd (n w e)

-- ---- the records of a section r, one after the other

module _ (r : List ℕ) (m : List ℕ) (at : ℕ) (room : at ≤ length m) where
  pub no_key_yet : (i : ℕ) → Written m m at at (fragment_bytes r i 0)
  unfolding fragment_bytes upward each
  no_key_yet i = write_none m at room

  pub no_fragment_yet : (keys : ℕ) → Written m m at at (record_bytes r keys 0)
  unfolding record_bytes upward each
  no_fragment_yet keys = write_none m at room

  module _ {m' m'' : List ℕ} {e e' : ℕ} where
    pub next_key : (i k : ℕ) → Written m m' at e (fragment_bytes r i k) → Written m' m'' e e' (each record8 (present_in r i k)) → Written m m'' at e' (fragment_bytes r i (k + 1))
    unfolding fragment_bytes
    next_key i k v w =
        let z : 0 + k ≡ k = omega arith in
        let q : fragment_bytes r i (k + 1) ≡ fragment_bytes r i k ++ each record8 (present_in r i k) = rw add-one (ap (each record8) (rw z at (upward_more k 0 (present_in r i))) ∙ each_append 8 record8 (upward k 0 (present_in r i)) (present_in r i k)) in
        rw q (write_more m at room v w)

    pub next_fragment : (keys i : ℕ) → Written m m' at e (record_bytes r keys i) → Written m' m'' e e' (fragment_bytes r i keys) → Written m m'' at e' (record_bytes r keys (i + 1))
    unfolding record_bytes fragment_bytes
    next_fragment keys i v w =
        let row : ℕ → List Present = λ i. upward keys 0 (present_in r i) in
        let z : 0 + i ≡ i = omega arith in
        let q : record_bytes r keys (i + 1) ≡ record_bytes r keys i ++ fragment_bytes r i keys = rw add-one (ap (each record8) (rw z at (upward_more i 0 row)) ∙ each_append 8 record8 (upward i 0 row) (row i)) in
        rw q (write_more m at room v w)

-- a record takes at most 8 bytes
pub few_bytes : (i k : ℕ) (y : Record) {m m' : List ℕ} {at e : ℕ} → Written m m' at e (each record8 (shown i k y)) → e ≤ at + 8
unfolding each shown
few_bytes i k absent w = omega (arith, w.behind)
few_bytes i k (present v) w =
    let r : Present = record { fragment = i; key = k; value = v } in
    omega (arith, w.behind, record_long r, ap length (append-nil (record8 r)))
