-- What the signed distance means: at zero, at both ends and between, and over the integers. Assumes nothing.
use Rattle.std.proofs.Common.{◌≡◌, ℕ, zero, suc, ◌+◌, ◌-◌, ◌%◌, ◌<◌, Bool, ◌⊎◌, ℤ, pos, negsuc, ◌+ℤ◌, ◌-ℤ◌, sym, refl, ap, ◌∙◌, inl, inr, ⊎_elim, eq-zero-or-pos, arith, to_z-of_z, w16, to_z, of_z, le-ltb, lt-ltb, ltb}
use Rattle.std.specs.Prelude.{if◌then◌else◌}
use lib.IntN.{pos-ne-negsuc}
use lib.Signed.{mag, lt_z}
use Rattle.model.specs.Distance.{difference, distance, below_zero, above_zero}

-- the wrapping difference d of two numbers of 16 bits is the difference modulo 65,536
pub difference_is : (received expected d : ℕ) → d < 65536 → expected < 65536 → (d + expected) % 65536 ≡ received → difference received expected ≡ d
difference_is received expected d h k q = omega arith

-- n taken off -1
pub below : (n : ℕ) → negsuc 0 -ℤ pos n ≡ negsuc n
below zero = refl
below (suc n) = ap (λ m. negsuc (suc m)) (omega arith)

-- the signed reading of 16 bits
pub read_signed : (d : ℕ) → to_z w16 d ≡ (if ltb d 32768 then pos d else negsuc (65535 - d))
read_signed d = let same : 65536 - suc d ≡ 65535 - d = omega arith in ap (λ n. if ltb d 32768 then pos d else negsuc n) same

-- ---- the number k after the expected one, and the number k + 1 before it
module _ (k expected : ℕ) (near : k < 32768) (e : expected < 65536) where
  pub ahead : distance ((expected + k) % 65536) expected ≡ pos k
  unfolding distance
  ahead =
      let d : difference ((expected + k) % 65536) expected ≡ k = omega arith in
      rw (d, lt-ltb k 32768)

  pub behind : distance ((expected + (65535 - k)) % 65536) expected ≡ negsuc k
  unfolding distance
  behind =
      let d : difference ((expected + (65535 - k)) % 65536) expected ≡ 65535 - k = omega arith in
      let same : 65535 - (65535 - k) ≡ k = omega arith in
      rw (d, le-ltb (65535 - k) 32768 (omega arith), same)

-- zero, and both ends of the range
pub zero_and_ends : (expected : ℕ) → expected < 65536
    → (distance expected expected ≡ pos 0) × (distance ((expected + 32767) % 65536) expected ≡ pos 32767) × (distance ((expected + 32768) % 65536) expected ≡ negsuc 32767)
zero_and_ends expected e =
    let here : (expected + 0) % 65536 ≡ expected = omega arith in
    (rw here at (ahead 0 expected (omega arith) e), ahead 32767 expected (omega arith) e, behind 32767 expected (omega arith) e)

-- zero is the expected number's alone
pub zero_alone : (received expected : ℕ) → received < 65536 → expected < 65536 → distance received expected ≡ pos 0 → received ≡ expected
unfolding distance
zero_alone r e h k z =
    let d = difference r e in
    ⊎_elim
    (λ far. let no : pos 0 ≡ negsuc (65535 - d) = rw (le-ltb d 32768 (omega arith)) at (sym z) in absurd (pos-ne-negsuc _ _ no))
    (λ near. let same : pos d ≡ pos 0 = rw (lt-ltb d 32768 (omega arith)) at z in let zero-off : d ≡ 0 = cc in omega arith)
    (eq-zero-or-pos (32768 - d))

-- the worked values: with 0 expected, and with 65,535
pub worked : (distance 65535 0 ≡ negsuc 0) × (distance 32768 0 ≡ negsuc 32767) × (distance 32767 0 ≡ pos 32767) × (distance 0 65535 ≡ pos 1)
unfolding distance
worked = (refl, refl, refl, refl)

-- ---- over the integers: the received number less the expected one, but for one turn of 65,536 either way
pub distance_means : (received expected : ℕ) → received < 65536 → expected < 65536
    → let d = distance received expected in (d +ℤ pos expected ≡ pos received) ⊎ ((d +ℤ pos expected ≡ pos (received + 65536)) ⊎ (d +ℤ pos (expected + 65536) ≡ pos received))
unfolding distance
distance_means r e h k =
    let d = difference r e in
    ⊎_elim
    (λ far. rw (le-ltb d 32768 (omega arith))
    (⊎_elim
    (λ (q : suc r - e ≡ 0). let x : e - suc (65535 - d) ≡ r = omega arith in inl (rw (le-ltb e (suc (65535 - d)) (omega arith), x)))
    (λ q. let x : e + 65536 - suc (65535 - d) ≡ r = omega arith in inr (inr (rw (le-ltb (e + 65536) (suc (65535 - d)) (omega arith), x))))
    (eq-zero-or-pos (suc r - e))))
    (λ near. rw (lt-ltb d 32768 (omega arith))
    (⊎_elim
    (λ (q : suc r - e ≡ 0). let x : d + e ≡ r + 65536 = omega arith in inr (inl (ap pos x)))
    (λ q. let x : d + e ≡ r = omega arith in inl (ap pos x))
    (eq-zero-or-pos (suc r - e))))
    (eq-zero-or-pos (32768 - d))

-- ---- the machine's tests of the sign of a number that it has in 16 bits
module _ (z : ℤ) {b : Bool} (fits : mag z < 32768) where
  pub tests_below : lt_z (to_z w16 (of_z w16 z)) (pos 0) ≡ b → below_zero z ≡ b
  tests_below t = is z ∙ (rw (to_z-of_z (record { sfits = fits })) at t)
    where
      is : (z : ℤ) → below_zero z ≡ lt_z z (pos 0)
      is (pos n) = sym (le-ltb n 0 (omega arith))
      is (negsuc n) = refl

  pub tests_above : lt_z (pos 0) (to_z w16 (of_z w16 z)) ≡ b → above_zero z ≡ b
  tests_above t = is z ∙ (rw (to_z-of_z (record { sfits = fits })) at t)
    where
      is : (z : ℤ) → above_zero z ≡ lt_z (pos 0) z
      is (pos zero) = refl
      is (pos (suc n)) = sym (lt-ltb 0 (suc n) (omega arith))
      is (negsuc n) = refl
