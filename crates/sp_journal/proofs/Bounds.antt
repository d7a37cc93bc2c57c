-- How long changes are, and lists of changes that are ones of a journal.
use Rattle.std.proofs.Common.{◌≡◌, ◌+◌, ◌*◌, ◌<◌, ◌≤◌, ℕ, ℤ, List, [], ◌∷◌, ◌++◌, length, take, get_or, IsTrue, sym, ◌∙◌, ap, subst, arith, length-append, append_assoc}
use Rattle.std.specs.List.{flat_map}
use Rattle.std.proofs.lemmas.List.{take_more, take_all}
use Rattle.sp_rect.specs.Value.{is_value}
use Rattle.std.specs.Int.{w32, cast_unsigned}
use Rattle.sp_rect.specs.Plane.{Rectangle}
use Rattle.sp_rect.specs.declared.record.Record.{Record}
use Rattle.sp_plain.specs.declared.change.Change.{Change}
use Rattle.sp_plain.specs.declared.change.Change.TheVariants.{Put, Drop, Set}
use Rattle.sp_journal.specs.Format.{u32_bytes, u64_bytes, coordinate_bytes, rect_bytes, value_bytes, put_bytes, drop_bytes, set_bytes, change_bytes, commit_bytes, batch_bytes, IsChange, IsPut, AllChanges, AllCommits, IsCommit}
use Rattle.sp_journal.proofs.Framing.{flat_push}
use Rattle.sp_journal.proofs.Chunks.{value_short, length-u32, length-u64}

all_push : (changes : List Change) (change : Change) → AllChanges changes → IsChange change → AllChanges (changes ++ change ∷ [])
all_push [] change all is = (is, tt)
all_push (first ∷ changes) change all is = (all.0, all_push changes change all.1 is)

pub all_more : (changes : List Change) (i : ℕ) (change : Change) → i < length changes → change ≡ get_or changes i change → AllChanges (take i changes) → IsChange change → AllChanges (take (i + 1) changes)
all_more changes i change lt at all is = subst AllChanges (sym (take_more changes i change lt ∙ ap (λ d. take i changes ++ d ∷ []) (sym at))) (all_push (take i changes) change all is)

pub commits_push : (commits : List (List Change)) (commit : List Change) → AllCommits commits → IsCommit commit → AllCommits (commits ++ commit ∷ [])
commits_push [] commit all is = (is, tt)
commits_push (first ∷ commits) commit all is = (all.0, commits_push commits commit all.1 is)

length-coordinate : (z : ℤ) → length (coordinate_bytes z) ≡ 4
unfolding coordinate_bytes
length-coordinate z = length-u32 (cast_unsigned w32 z)

length-rect : (r : Rectangle) → length (rect_bytes r) ≡ 16
unfolding rect_bytes
length-rect r =
    omega (arith, length-append (coordinate_bytes r.x1 ++ coordinate_bytes r.y1 ++ coordinate_bytes r.x2) (coordinate_bytes r.y2), length-append (coordinate_bytes r.x1 ++ coordinate_bytes r.y1) (coordinate_bytes r.x2), length-append (coordinate_bytes r.x1) (coordinate_bytes r.y1), length-coordinate r.x1, length-coordinate r.y1, length-coordinate r.x2, length-coordinate r.y2)

length-value : (v : List ℕ) → IsTrue (is_value v) → length (value_bytes v) ≤ 65
unfolding value_bytes
length-value v is = omega (arith, value_short v is)

pub length-put : (r : Record) → IsPut r → length (put_bytes r) ≤ 90
unfolding put_bytes
length-put r is = omega (arith, length-append (u64_bytes r.id ++ rect_bytes r.rect) (value_bytes r.value), length-append (u64_bytes r.id) (rect_bytes r.rect), length-u64 r.id, length-rect r.rect, length-value r.value is.value)

length-change : (change : Change) → IsChange change → length (change_bytes change) ≤ 90
unfolding drop_bytes set_bytes
length-change (Put r) is = length-put r is
length-change (Drop id) is = omega (arith, length-u64 id)
length-change (Set id value) is = omega (arith, length-append (u64_bytes id) (value_bytes value), length-u64 id, length-value value is.1)

length-changes : (changes : List Change) → AllChanges changes → length (flat_map change_bytes changes) ≤ 90 * length changes
length-changes [] all = omega arith
length-changes (change ∷ changes) all = omega (arith, length-append (change_bytes change) (flat_map change_bytes changes), length-change change all.0, length-changes changes all.1)

pub length-commit : (changes : List Change) → AllChanges changes → length (commit_bytes changes) ≤ 4 + 90 * length changes
unfolding commit_bytes
length-commit changes all = omega (arith, length-append (u32_bytes (length changes)) (flat_map change_bytes changes), length-u32 (length changes), length-changes changes all)

pub commits_more : (commits : List (List Change)) (i : ℕ) (commit : List Change) → i < length commits → commit ≡ get_or commits i commit → AllCommits (take i commits) → IsCommit commit → AllCommits (take (i + 1) commits)
commits_more commits i commit lt at all is = subst AllCommits (sym (take_more commits i commit lt ∙ ap (λ d. take i commits ++ d ∷ []) (sym at))) (commits_push (take i commits) commit all is)

pub batch_more : (commits : List (List Change)) (i : ℕ) (commit : List Change) (count out later : List ℕ) → i < length commits → commit ≡ get_or commits i commit
    → out ≡ count ++ flat_map commit_bytes (take i commits) → later ≡ out ++ commit_bytes commit → later ≡ count ++ flat_map commit_bytes (take (i + 1) commits)
batch_more commits i commit count out later lt at is now =
    let more = take_more commits i commit lt ∙ ap (λ d. take i commits ++ d ∷ []) (sym at) in
    now ∙ ap (λ (l : List ℕ). l ++ commit_bytes commit) is ∙ append_assoc count (flat_map commit_bytes (take i commits)) (commit_bytes commit)
    ∙ ap (λ (l : List ℕ). count ++ l) (sym (flat_push (take i commits) commit) ∙ ap (λ l. flat_map commit_bytes l) (sym more))

pub batch_whole : (commits shown : List (List Change)) (n : ℕ) (out : List ℕ) → shown ≡ commits → length shown ≤ n → out ≡ u32_bytes (length commits) ++ flat_map commit_bytes (take n shown) → out ≡ batch_bytes commits
unfolding batch_bytes
batch_whole commits shown n out show past is = is ∙ ap (λ l. u32_bytes (length commits) ++ flat_map commit_bytes l) (take_all n shown past ∙ show)
