-- The kernel that is started over a journal is whole.
use Rattle.std.proofs.Common.{◌≡◌, ◌≤◌, ℕ, Bool, IsTrue, List, [], length, Option, Some, None, sym, ap, ◌∙◌, subst}
use Rattle.std.specs.List.{sum_by}
use Rattle.sp_rect.specs.declared.record.Record.{Record}
use Rattle.sp_rect.specs.Serial.{after_all}
use Rattle.sp_rect.specs.Store.{IsOrdered}
use Rattle.sp_plain.specs.declared.change.Change.{Change}
use Rattle.sp_node.specs.declared.node.Shape.{Shape}
use Rattle.sp_node.specs.Table.{IsShape}
use Rattle.sp_txn.specs.Visible.{live}
use Rattle.sp_journal.specs.declared.types.Recovered.{Recovered}
use Rattle.sp_journal.specs.declared.work.Phase.TheVariants.{Ready}
use Rattle.sp_journal.specs.declared.work.Work.{Work}
use Rattle.sp_journal.specs.Opening.{IsAttached}
use Rattle.sp_model.specs.State.{Kernel, entries_in, session_at}
use Rattle.sp_model.specs.Stepped.{most_entries}
use Rattle.sp_model.specs.Opening.{IsOpened}
use Rattle.sp_model.specs.Soundness.{Sound}
use Rattle.sp_model.proofs.Stepping.{opened_whole}
use Rattle.sp_durable.specs.Held.{AreHeld}
use Rattle.sp_durable.specs.Standing.{Counted, phase_of, phase_after, changes_by}
use Rattle.sp_kernel.specs.Whole.{IsWhole}

none_held : (k : Kernel) (numbers : List ℕ) (commits : List (List Change)) → numbers ≡ [] → commits ≡ [] → AreHeld k numbers commits
none_held k numbers commits none empty = subst (λ (ns : List ℕ). AreHeld k ns commits) (sym none) (subst (λ (cs : List (List Change)). AreHeld k [] cs) (sym empty) tt)

module _ (shape : Shape) (records : List Record) (k : Kernel) (opened : IsOpened shape records k) where
  fresh_counted : (work : Work) → work.phase ≡ Ready → work.flying ≡ 0 → work.commits ≡ 0 → work.changes ≡ 0 → Counted k work
  fresh_counted work phase flying commits changes = record {
    phase = subst (λ (o : Option ℕ). work.phase ≡ phase_of o k.calls) (sym opened.stopped) (subst (λ (n : ℕ). work.phase ≡ phase_after n) (sym opened.calls) phase);
    flying = flying ∙ sym (ap length opened.flight);
    commits = commits ∙ sym (ap length opened.queue);
    changes = changes ∙ sym (ap (λ (q : List ℕ). sum_by (λ s. changes_by (entries_in k) (session_at s k.sessions)) q) opened.queue);
    end = λ offset e. absurd (none_some offset (sym opened.stopped ∙ e));
  }
    where
      none_some : (offset : ℕ) → None ≡ Some offset → ⊥
      none_some offset e = cc

  fresh_records : Sound k → live (entries_in k) ≡ records
  fresh_records sound = sound.current ∙ ap (after_all k.base) opened.commits ∙ opened.base

pub started_whole : (shape : Shape) (found : Recovered) (k : Kernel) (work : Work) (tells : Bool) (was reads : List ℕ) (leaves : List ℕ → Type 0) → IsShape shape → IsOrdered found.records → length found.records ≤ most_entries → IsOpened shape found.records k
    → work.phase ≡ Ready → work.flying ≡ 0 → work.commits ≡ 0 → work.changes ≡ 0 → (IsTrue tells → IsAttached was reads leaves work found) → IsWhole k work tells reads leaves
started_whole shape found k work tells was reads leaves valid ordered few opened phase flying commits changes attached =
    let sound = opened_whole shape found.records k valid ordered few opened in
    record {
      sound = sound;
      counted = fresh_counted shape found.records k opened work phase flying commits changes;
      agrees = λ told. let a = attached told in record {
        ledger = a.ledger;
        stands = a.stands;
        matches = record {
          records = ap (λ (r : Recovered). r.records) a.found_is ∙ sym (fresh_records shape found.records k opened sound);
          flight = none_held k k.flight a.ledger.flight opened.flight a.no_flight;
          queued = none_held k k.queue a.ledger.queued opened.queue a.no_queue;
        };
      };
    }
