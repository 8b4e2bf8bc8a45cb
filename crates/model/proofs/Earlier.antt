-- A commit that stands in a stream before the P or CC of an installed transaction is installed too. Assumes nothing.
use Prim.Native.Nat.{ℕ, suc, ◌≤◌, ◌<◌}
use mathlib.Core.Path.{◌≡◌, refl, sym, ◌∙◌}
use mathlib.Core.Logic.{◌⊎◌, inl, inr}
use native.Mathlib.Omega.{arith}
use Rattle.model.specs.Entry.{P, CC}
use Rattle.model.specs.Account.{Held, Account}
use Rattle.model.specs.Rules.{At}
use Rattle.model.proofs.Working.{In, streams, Kept, Ordered, at_in}
use Rattle.model.proofs.Together.{Commits, Decided, commits_decided, Installed, installed_by, only}

module _ (a : Account) (z : a.closed ≡ 0) (K : Kept (streams a)) (O : Ordered (streams a)) where
  -- a transaction with CC or CP in stream i in an epoch up to m is installed there by close m
  committed_by : (m i p : ℕ) (e : Held) → At e (streams a i) p → e.epoch ≤ m → Commits e → Installed a m i e.transaction
  committed_by m i p e x l k = go (commits_decided K (at_in x) k) (prepared k)
    where
      prepared : Commits e → (f : Held) × In f (streams a i) × (f.transaction ≡ e.transaction) × ((f.kind ≡ P) ⊎ (f.kind ≡ CC))
      prepared (inl c) = (e, at_in x, refl, inr c)
      prepared (inr c) = let u = O.after_p x c in (u.1, at_in u.3, u.5, inl u.4)

      go : Decided (streams a) e.epoch e.transaction → (f : Held) × In f (streams a i) × (f.transaction ≡ e.transaction) × ((f.kind ≡ P) ⊎ (f.kind ≡ CC)) → Installed a m i e.transaction
      go (j, g, y, c, t, b) (f, v, u, d) = rw (← t) (installed_by a z K y c (omega arith) v (u ∙ sym t) d)

  pub earlier : (m i j p q : ℕ) (e f : Held) → At e (streams a i) p → At f (streams a i) q → p < q → Commits e → (f.kind ≡ P) ⊎ (f.kind ≡ CC)
      → Installed a m j f.transaction → Installed a m i e.transaction
  earlier m i j p q e f x y l c d (n, b, t) = go (only a z K n j f.transaction t) d
    where
      go : Decided (streams a) (suc n) f.transaction → (f.kind ≡ P) ⊎ (f.kind ≡ CC) → Installed a m i e.transaction
      go (k, g, w, cg, tg, lg) (inl kf) = committed_by m i p e x (omega (arith, O.rising x y (omega arith), K.intime (at_in y) w kf cg (sym tg))) c
      go (k, g, w, cg, tg, lg) (inr kf) = committed_by m i p e x (omega (arith, O.rising x y (omega arith), K.one (at_in y) w kf cg (sym tg))) c
