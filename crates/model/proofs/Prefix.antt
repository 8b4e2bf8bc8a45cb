-- What m closes install is the same over the entries taken and over any longer streams of which they are a first part, once every stream has taken mark m. Assumes nothing.
use Prim.Native.Nat.{ℕ, zero, suc, ◌+◌, ◌≤◌, ◌<◌}
use mathlib.Core.Path.{◌≡◌, refl, sym, ap, ◌∙◌, fun_ext}
use mathlib.Core.List.{List, [], ◌∷◌, ◌++◌}
use native.Mathlib.Omega.{arith}
use Rattle.model.specs.Account.{Fragment, Account}
use Rattle.model.specs.Taking.{take}
use Rattle.model.specs.Closing.{settle, close, installed}
use Rattle.model.specs.declared.Entry.{Entry}
use Rattle.model.proofs.Runs.{take_list, take_all, closes, Ready, close_take_all, same_installed, closes_closed}

-- ---- takes one after the other

take_list_append : (s : Fragment) (xs ys : List Entry) → take_list s (xs ++ ys) ≡ take_list (take_list s xs) ys
unfolding take_list
take_list_append s [] ys = refl
take_list_append s (x ∷ xs) ys = take_list_append (take s x) xs ys

pub take_all_append : (es fs : ℕ → List Entry) (a : Account) → take_all (λ j. es j ++ fs j) a ≡ take_all fs (take_all es a)
unfolding take_all
take_all_append es fs a = ap (λ f. record { number = a.number; fragments = a.fragments; keys = a.keys; closed = a.closed; at = f }) (fun_ext λ j. take_list_append (a.at j) (es j) (fs j))

pub take_list_records : (s : Fragment) (es : List Entry) → (take_list s es).records ≡ s.records
unfolding take_list take
take_list_records s [] = refl
take_list_records s (e ∷ es) = take_list_records (take s e) es

-- ---- closes change neither the open epochs nor the number of fragments

pub closes_fragments : (m : ℕ) (a : Account) → (closes m a).fragments ≡ a.fragments
unfolding closes close
closes_fragments zero a = refl
closes_fragments (suc m) a = closes_fragments m a

pub closes_epoch : (m : ℕ) (a : Account) (i : ℕ) → ((closes m a).at i).counters.epoch ≡ (a.at i).counters.epoch
unfolding closes close settle
closes_epoch zero a i = refl
closes_epoch (suc m) a i = closes_epoch m a i

-- every stream has taken the marks up to closed + m
abbrev pub Marked : Account → ℕ → Type 0
Marked a m = (i : ℕ) → i < a.fragments → a.closed + m < (a.at i).counters.epoch

module _ (a : Account) (es : ℕ → List Entry) (o : (j : ℕ) → a.fragments ≤ j → es j ≡ []) where
  ready : (m : ℕ) → Marked a (suc m) → Ready (closes m a)
  ready m r i l = omega (arith, closes_closed m a, closes_epoch m a i, r i (omega (arith, closes_fragments m a)))

  outside : (m : ℕ) (j : ℕ) → (closes m a).fragments ≤ j → es j ≡ []
  outside m j l = o j (omega (arith, closes_fragments m a))

  pub closes_take_all : (m : ℕ) → Marked a m → closes m (take_all es a) ≡ take_all es (closes m a)
  unfolding closes
  closes_take_all zero r = refl
  closes_take_all (suc m) r =
      ap close (closes_take_all m (λ i l. omega (arith, r i l)))
      ∙ sym (close_take_all (closes m a) es (ready m r) (outside m))

  pub installed_prefix : (k : ℕ) → Marked a (suc k) → (i : ℕ) → installed (closes k (take_all es a)) i ≡ installed (closes k a) i
  installed_prefix k r i = ap (λ b. installed b i) (closes_take_all k (λ i l. omega (arith, r i l))) ∙ same_installed (closes k a) es (ready k r) (outside k) i

  pub records_prefix : (m : ℕ) → Marked a m → (i : ℕ) → ((closes m (take_all es a)).at i).records ≡ ((closes m a).at i).records
  unfolding take_all
  records_prefix m r i = ap (λ b. (b.at i).records) (closes_take_all m r) ∙ take_list_records ((closes m a).at i) (es i)
