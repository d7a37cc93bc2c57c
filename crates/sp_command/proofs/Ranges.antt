-- What words say is in its range.
use Rattle.std.proofs.Common.{◌≡◌, ℕ, true, ◌≤◌, ◌*◌, ◌/◌, max, List, Option, Some, None, subst, sym, arith}
use Rattle.std.specs.Prelude.{IfSome, unwrap_or}
use Rattle.sp_node.specs.Table.{IsShape}
use Rattle.sp_node.specs.declared.node.Shape.{Shape}
use Rattle.sp_command.specs.declared.options.Key.{Key}
use Rattle.sp_command.specs.declared.options.Key.TheVariants.{Journal, Max, Min, Seed, Count}
use Rattle.sp_command.specs.declared.options.Options.{Options}
use Rattle.sp_command.specs.declared.words.Command.{Command}
use Rattle.sp_command.specs.declared.task.Task.{Task}
use Rattle.sp_command.specs.Bounds.{IsBounded}
use Rattle.sp_command.specs.Grammar.{Sets, Leads, none, apart, joined, audit, unset, HasSizes, Asks, play, drill, dump, check, compact, make, stress, Says, says}

-- each option that is set is in its range
record AreFit (o : Options) : Type 0 where
  most : IfSome o.max (λ n. n ≤ 64)
  least : IfSome o.min (λ n. 2 ≤ n)
  seed : IfSome o.seed (λ n. (1 ≤ n) × (n ≤ 2147483646))
  count : IfSome o.count (λ n. n ≤ 10000)

Sets-fit : (key : Key) (word : List ℕ) (o p : Options) → Sets key word o p → AreFit o → AreFit p
Sets-fit Journal word o p s fit = subst AreFit (sym s.2) (record { most = fit.most; least = fit.least; seed = fit.seed; count = fit.count })
Sets-fit Max word o p s fit = subst AreFit (sym s.3) (record { most = s.1.1; least = fit.least; seed = fit.seed; count = fit.count })
Sets-fit Min word o p s fit = subst AreFit (sym s.3) (record { most = fit.most; least = s.1.0; seed = fit.seed; count = fit.count })
Sets-fit Seed word o p s fit = subst AreFit (sym s.3) (record { most = fit.most; least = fit.least; seed = (s.1.0, s.1.1); count = fit.count })
Sets-fit Count word o p s fit = subst AreFit (sym s.3) (record { most = fit.most; least = fit.least; seed = fit.seed; count = s.1.1 })

Leads-fit : (o q : Options) (words : List (List ℕ)) → Leads o words q → AreFit o → AreFit q
Leads-fit o q _ (none _) fit = fit
Leads-fit o q _ (apart key word words _ p _ sets rest) fit = Leads-fit p q words rest (Sets-fit key word o p sets fit)
Leads-fit o q _ (joined key word words _ p _ sets rest) fit = Leads-fit p q words rest (Sets-fit key word o p sets fit)
Leads-fit o q _ (audit words _ _ free rest) fit =
    Leads-fit (record o { audit = true }) q words rest (record { most = fit.most; least = fit.least; seed = fit.seed; count = fit.count })

shape-most : (most : Option ℕ) (n : ℕ) → IfSome most (λ n. n ≤ 64) → n ≡ unwrap_or most 16 → n ≤ 64
shape-most None n fit is = omega arith
shape-most (Some m) n fit is = omega arith

shape-least : (least : Option ℕ) (n part : ℕ) → IfSome least (λ n. 2 ≤ n) → n ≡ unwrap_or least (max 2 part) → 2 ≤ n
shape-least None n part fit is = omega arith
shape-least (Some k) n part fit is = omega arith

sizes-fit : (most least : Option ℕ) (shape : Shape) → HasSizes most least shape → IfSome most (λ n. n ≤ 64) → IfSome least (λ n. 2 ≤ n) → IsShape shape
sizes-fit most least shape sizes m k = record {
  most = shape-most most shape.max m sizes.0;
  half = omega arith;
  least = shape-least least shape.min (2 * shape.max / 5) k sizes.1;
}

asks-fit : (command : Command) (o : Options) (task : Task) → Asks command o task → AreFit o → IsBounded task
asks-fit _ _ _ (play j most least a shape sizes) fit = sizes-fit most least shape sizes fit.most fit.least
asks-fit _ _ _ (drill j most least a shape sizes) fit = sizes-fit most least shape sizes fit.most fit.least
asks-fit _ _ _ (dump j) fit = tt
asks-fit _ _ _ (check j) fit = tt
asks-fit _ _ _ (compact j) fit = tt
asks-fit _ _ _ (make s k) fit = (fit.seed.0, fit.seed.1, fit.count)
asks-fit _ _ _ (stress s k most least shape sizes) fit = ((fit.seed.0, fit.seed.1, fit.count), sizes-fit most least shape sizes fit.most fit.least)

pub Says-fit : (words : List (List ℕ)) (task : Task) → Says words task → IsBounded task
Says-fit _ task (says command words o _ led asked) =
    asks-fit command o task asked (Leads-fit unset o words led (record { most = tt; least = tt; seed = tt; count = tt }))
