-- What the transcript says that a line meets is what the kernel has.
use Rattle.std.proofs.Common.{◌≡◌, ℕ, ◌+◌, Bool, true, false, not, cond, List, [], ◌∷◌, ◌++◌, map, length, Option, None, Some, refl, sym, ap, ap₂, ◌∙◌, append-nil}
use Rattle.std.proofs.Math.Path.{fun_ext}
use Rattle.sp_rect.specs.declared.record.Record.{Record}
use Rattle.sp_rect.specs.declared.commit.Commit.{Commit}
use Rattle.sp_rect.specs.Serial.{records_after, after_all}
use Rattle.sp_text.specs.Transcripts.{ledger, of_session, with_place, committed}
use Rattle.sp_text.specs.declared.types.Item.{Item}
use Rattle.sp_model.specs.declared.session.Session.{Session}
use Rattle.sp_model.specs.State.{Kernel, is_active, session_at}
use Rattle.sp_model.specs.Refusals.{is_placed}
use Rattle.sp_told.specs.Telling.{without_place, open_of, TellsCommits}
use Rattle.sp_told.proofs.Pending.{none_late}
use Rattle.sp_told.proofs.Agreeing.{all_told}
use Rattle.sp_conduct.specs.Standing.{Standing, standing}
use Rattle.sp_conduct.specs.Fitting.{Scene}
use Rattle.sp_conduct.specs.Transcript.{begun, pairs_of, seen_by, scene}
use Rattle.sp_conduct.proofs.Resting.{pairs_at, seen_in, scene_in}

-- a session whose transaction has no place has it open
pairs_open : (o : Option Session) → is_placed o ≡ false → pairs_of (open_of o) ≡ pairs_at o
pairs_open None e = refl
pairs_open (Some x) e = go (is_active x) e
  where
    differ : true ≡ false → ⊥
    differ h = cc

    go : (b : Bool) → not b ≡ false → pairs_of (cond b (without_place x ∷ []) []) ≡ x.txn.ops
    go true h = refl
    go false h = absurd (differ h)

abbrev scene_of : (ℕ → Standing) → (ℕ → List Record) → ℕ → ℕ → Scene
scene_of at seen next committed = record { at = at; seen = seen; next = next; committed = committed }

module _ (records : List Record) (items : List Item) (before : List Commit) (m : Kernel) (t : TellsCommits before (ledger items) m []) (none : before ≡ []) (base : m.base ≡ records) where
  -- no commit is owing: those that were told are those of the kernel, and what is pending is open
  commits_same : m.commits ≡ committed items
  commits_same = all_told before (ledger items) m t ∙ ap (λ (cs : List Commit). cs ++ committed items) none

  pending_same : (s : ℕ) → of_session s (ledger items).pending ≡ open_of (session_at s m.sessions)
  pending_same s = t.pending s ∙ ap (λ (cs : List Commit). open_of (session_at s m.sessions) ++ map (with_place 0) cs) (none_late s t.late [] t.sessions refl) ∙ append-nil (open_of (session_at s m.sessions))

  seen_same : (s : ℕ) → seen_in m s ≡ seen_by records items s
  seen_same s =
      ap₂ records_after (ap₂ after_all base commits_same)
      (sym (pairs_open (session_at s m.sessions) (t.placed s)) ∙ sym (ap (λ (cs : List Commit). pairs_of cs) (pending_same s)))

  pub scene_same : m.next_txn ≡ begun items + 1 → scene_in m (standing items) ≡ scene records items
  scene_same next =
      ap (λ (seen : ℕ → List Record). scene_of (standing items) seen m.next_txn (length m.commits)) (fun_ext seen_same)
      ∙ ap (λ (number : ℕ). scene_of (standing items) (seen_by records items) number (length m.commits)) next
      ∙ ap (λ (cs : List Commit). scene_of (standing items) (seen_by records items) (begun items + 1) (length cs)) commits_same
