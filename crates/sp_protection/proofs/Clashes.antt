-- Modes that different transactions can't hold together.
use Rattle.std.proofs.Common.{◌≡◌, ◌≢◌, ℕ, true, List, sym, ◌∙◌, arith}
use Rattle.sp_locks.specs.declared.mode.Mode.{Mode}
use Rattle.sp_locks.specs.declared.mode.Mode.TheVariants.{IX, S, SIX, X}
use Rattle.sp_locks.specs.declared.row.Name.{Name}
use Rattle.sp_locks.specs.Modes.{compatible, covers}
use Rattle.sp_protection.specs.Holding.{Lock, HoldsMode, AllCompatible}

pub covers-trans : (a b c : Mode) → covers a b ≡ true → covers b c ≡ true → covers a c ≡ true
covers-trans a b c h k = grind arith

pub covers_self : (a : Mode) → covers a a ≡ true
covers_self a = grind arith

pub shared-against_intent : (a b : Mode) → covers a S ≡ true → covers b IX ≡ true → compatible a b ≡ true → ⊥
shared-against_intent a b h k c = grind arith

pub intent-against_six : (a b : Mode) → covers a IX ≡ true → covers b SIX ≡ true → compatible a b ≡ true → ⊥
intent-against_six a b h k c = grind arith

pub six-covers_intent : (a : Mode) → covers a SIX ≡ true → covers a IX ≡ true
six-covers_intent a h = grind arith

pub exclusive-against_shared : (a b : Mode) → covers a S ≡ true → covers b X ≡ true → compatible a b ≡ true → ⊥
exclusive-against_shared a b h k c = grind arith

pub exclusive-against_exclusive : (a b : Mode) → covers a X ≡ true → covers b X ≡ true → compatible a b ≡ true → ⊥
exclusive-against_exclusive a b h k c = grind arith

pub compatible-weaker : (a b c : Mode) → covers b c ≡ true → compatible a b ≡ true → compatible a c ≡ true
compatible-weaker a b c h k = grind arith

-- two transactions don't hold modes that exclude each other on one name
pub clash : (locks : List Lock) (t u : ℕ) (name : Name) (a b : Mode) → AllCompatible locks → u ≢ t → ((x y : Mode) → covers x a ≡ true → covers y b ≡ true → compatible x y ≡ true → ⊥) → HoldsMode locks t name a → HoldsMode locks u name b → ⊥
clash locks t u name a b all apart against h k = against h.lock.mode k.lock.mode h.enough k.enough (all h.lock k.lock h.held k.held (λ same. apart (sym k.by_txn ∙ sym same ∙ h.by_txn)) (h.on_name ∙ sym k.on_name))
