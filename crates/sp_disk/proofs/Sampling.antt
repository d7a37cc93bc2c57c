-- Lists of files as sets of files.
use Rattle.std.proofs.Common.{◌≡◌, ◌⊎◌, inl, inr, ℕ, ◌+◌, ◌-◌, ◌<◌, ◌≤◌, ◌↔◌, min, true, false, List, [], ◌∷◌, ◌++◌, length, take, drop, length-take, get_or, refl, sym, ◌∙◌, ap, subst, arith}
use Rattle.std.specs.List.{flat_map}
use Rattle.std.proofs.lemmas.List.{take_more, take_min, drop-drop, append-nil, append_assoc}
use Rattle.sp_disk.specs.declared.history.DiskCall.{DiskCall}
use Rattle.sp_disk.specs.declared.history.DiskCall.TheVariants.{Look, Write, Cut, Sync}
use Rattle.sp_disk.specs.Files.{put, Torn, Shortened}
use Rattle.sp_disk.specs.History.{History, done, reads_after, left, may_tear, is_sampled, images_of, samples_of}
use Rattle.sp_disk.specs.Laws.{length-put, before_put, behind_put, torn_put, torn_same, shortened_take, shortened_same}
use Rattle.sp_disk.specs.Membership.{In}
use Rattle.sp_disk.proofs.Logs.{reads_push}

-- one turn of a loop that builds a `flat_map`
pub flat_more : {X Y : Type 0} (f : X → List Y) (xs : List X) (i : ℕ) (d : X) → i < length xs → flat_map f (take (i + 1) xs) ≡ flat_map f (take i xs) ++ f (get_or xs i d)
flat_more f xs i d lt = ap (λ l. flat_map f l) (take_more xs i d lt) ∙ split f (take i xs) (get_or xs i d)
  where
    split : {X Y : Type 0} (f : X → List Y) (xs : List X) (x : X) → flat_map f (xs ++ x ∷ []) ≡ flat_map f xs ++ f x
    split f [] x = append-nil (f x)
    split f (y ∷ ys) x = ap (λ l. f y ++ l) (split f ys x) ∙ sym (append_assoc (f y) (flat_map f ys) (f x))

in_append : (file : List ℕ) (xs ys : List (List ℕ)) → In file (xs ++ ys) → In file xs ⊎ In file ys
in_append file [] ys is = inr is
in_append file (x ∷ xs) ys (inl here) = inl (inl here)
in_append file (x ∷ xs) ys (inr there) = elim (in_append file xs ys there) [ inl first ↦ inl (inr first) | inr second ↦ inr second ]

in_left : (file : List ℕ) (xs ys : List (List ℕ)) → In file xs → In file (xs ++ ys)
in_left file [] ys is = absurd is
in_left file (x ∷ xs) ys (inl here) = inl here
in_left file (x ∷ xs) ys (inr there) = inr (in_left file xs ys there)

in_right : (file : List ℕ) (xs ys : List (List ℕ)) → In file ys → In file (xs ++ ys)
in_right file [] ys is = is
in_right file (x ∷ xs) ys is = inr (in_right file xs ys is)

-- the files that come of one of the list
pub in_each : (f : List ℕ → List (List ℕ)) (files : List (List ℕ)) (file : List ℕ) → In file (flat_map f files) → (was : List ℕ) × In was files × In file (f was)
in_each f [] file is = absurd is
in_each f (first ∷ files) file is = elim (in_append file (f first) (flat_map f files) is) [
  | inl here ↦ (first, inl refl, here)
  | inr there ↦ let found = in_each f files file there in (found.0, inr found.1, found.2)
]

pub each_in : (f : List ℕ → List (List ℕ)) (files : List (List ℕ)) (file was : List ℕ) → In was files → In file (f was) → In file (flat_map f files)
each_in f [] file was there is = absurd there
each_in f (first ∷ files) file was (inl here) is = in_left file (f first) (flat_map f files) (subst (λ g. In file (f g)) here is)
each_in f (first ∷ files) file was (inr there) is = in_right file (f first) (flat_map f files) (each_in f files file was there is)

-- one of three, and one of two
of_three : (file a b c : List ℕ) → In file (a ∷ b ∷ c ∷ []) → (file ≡ a) ⊎ ((file ≡ b) ⊎ (file ≡ c))
of_three file a b c (inl x) = inl x
of_three file a b c (inr (inl x)) = inr (inl x)
of_three file a b c (inr (inr (inl x))) = inr (inr x)
of_three file a b c (inr (inr (inr none))) = absurd none

is_three : (file a b c : List ℕ) → (file ≡ a) ⊎ ((file ≡ b) ⊎ (file ≡ c)) → In file (a ∷ b ∷ c ∷ [])
is_three file a b c (inl x) = inl x
is_three file a b c (inr (inl x)) = inr (inl x)
is_three file a b c (inr (inr x)) = inr (inr (inl x))

of_two : (file a b : List ℕ) → In file (a ∷ b ∷ []) → (file ≡ a) ⊎ (file ≡ b)
of_two file a b (inl x) = inl x
of_two file a b (inr (inl x)) = inr x
of_two file a b (inr (inr none)) = absurd none

is_two : (file a b : List ℕ) → (file ≡ a) ⊎ (file ≡ b) → In file (a ∷ b ∷ [])
is_two file a b (inl x) = inl x
is_two file a b (inr x) = inr (inl x)

of_one : (file a : List ℕ) → In file (a ∷ []) → file ≡ a
of_one file a (inl x) = x
of_one file a (inr none) = absurd none

pub by_write : (files shown spread : List (List ℕ)) (at : ℕ) (bytes wrote : List ℕ) → shown ≡ files → wrote ≡ bytes → spread ≡ flat_map (λ f. f ∷ put f at (take 1 wrote) ∷ put f at wrote ∷ []) shown
    → (file : List ℕ) → In file spread ↔ ((was : List ℕ) × In was files × ((file ≡ was) ⊎ ((file ≡ put was at (take 1 bytes)) ⊎ (file ≡ put was at bytes))))
by_write files shown spread at bytes wrote show wrote_is spread_is file =
    let f : List ℕ → List (List ℕ) = λ g. g ∷ put g at (take 1 bytes) ∷ put g at bytes ∷ [] in
    let is : spread ≡ flat_map f files = spread_is ∙ ap (λ (w : List ℕ). flat_map (λ g. g ∷ put g at (take 1 w) ∷ put g at w ∷ []) shown) wrote_is ∙ ap (λ l. flat_map f l) show in (
      λ x. let found = in_each f files file (subst (λ l. In file l) is x) in (found.0, found.1, of_three file found.0 (put found.0 at (take 1 bytes)) (put found.0 at bytes) found.2),
      λ (was, there, which). subst (λ l. In file l) (sym is) (each_in f files file was there (is_three file was (put was at (take 1 bytes)) (put was at bytes) which)),
    )

pub by_cut : (files shown spread : List (List ℕ)) (len : ℕ) → shown ≡ files → spread ≡ flat_map (λ f. f ∷ take len f ∷ []) shown
    → (file : List ℕ) → In file spread ↔ ((was : List ℕ) × In was files × ((file ≡ was) ⊎ (file ≡ take len was)))
by_cut files shown spread len show spread_is file =
    let f : List ℕ → List (List ℕ) = λ g. g ∷ take len g ∷ [] in
    let is : spread ≡ flat_map f files = spread_is ∙ ap (λ l. flat_map f l) show in (
      λ x. let found = in_each f files file (subst (λ l. In file l) is x) in (found.0, found.1, of_two file found.0 (take len found.0) found.2),
      λ (was, there, which). subst (λ l. In file l) (sym is) (each_in f files file was there (is_two file was (take len was) which)),
    )

pub by_one : (reads : List ℕ) (spread : List (List ℕ)) → spread ≡ reads ∷ [] → (file : List ℕ) → In file spread ↔ (file ≡ reads)
by_one reads spread is file = (λ x. of_one file reads (subst (λ l. In file l) is x), λ x. subst (λ l. In file l) (sym is) (inl x))

-- the samples go by what is in the list before the call alone
sampled_by : (call : DiskCall) (reads : List ℕ) (before other : List ℕ → Type 0) → ((f : List ℕ) → before f → other f) → (file : List ℕ) → is_sampled call reads before file → is_sampled call reads other file
sampled_by (Look made) reads before other to file is = to file is
sampled_by (Write at bytes made) reads before other to file (was, is, which) = (was, to was is, which)
sampled_by (Cut len made) reads before other to file (was, is, which) = (was, to was is, which)
sampled_by (Sync true) reads before other to file is = is
sampled_by (Sync false) reads before other to file is = to file is

left_push : (reads : List ℕ) (before : List ℕ → Type 0) (calls : List DiskCall) (call : DiskCall) (file : List ℕ)
    → left is_sampled reads before (calls ++ call ∷ []) file ↔ is_sampled call (reads_after reads calls) (left is_sampled reads before calls) file
left_push reads before [] call file = (λ x. x, λ x. x)
left_push reads before (first ∷ calls) call file = left_push (done first reads) (is_sampled first reads before) calls call file

-- one turn of the loop over the calls
pub one_turn : (start reads shown : List ℕ) (calls : List DiskCall) (i : ℕ) (call : DiskCall) (files spread : List (List ℕ))
    → i < length calls → call ≡ get_or calls i call → shown ≡ reads → reads ≡ reads_after start (take i calls)
    → ((file : List ℕ) → In file files ↔ left is_sampled start (λ f. f ≡ start) (take i calls) file)
    → ((file : List ℕ) → In file spread ↔ is_sampled call shown (λ f. In f files) file)
    → (file : List ℕ) → In file spread ↔ left is_sampled start (λ f. f ≡ start) (take (i + 1) calls) file
one_turn start reads shown calls i call files spread lt at show reads_is before after file =
    let is : shown ≡ reads_after start (take i calls) = show ∙ reads_is in
    let more : take (i + 1) calls ≡ take i calls ++ call ∷ [] = take_more calls i call lt ∙ ap (λ d. take i calls ++ d ∷ []) (sym at) in
    let P : List DiskCall → Type 0 = λ l. left is_sampled start (λ f. f ≡ start) l file in
    let Q : List ℕ → Type 0 = λ r. is_sampled call r (left is_sampled start (λ f. f ≡ start) (take i calls)) file in
    let push = left_push start (λ f. f ≡ start) (take i calls) call file in (
      λ x. subst P (sym more) (push.1 (subst Q is (sampled_by call shown _ _ (λ f y. (before f).0 y) file ((after file).0 x)))),
      λ x. (after file).1 (sampled_by call shown _ _ (λ f y. (before f).1 y) file (subst Q (sym is) (push.0 (subst P more x)))),
    )

pub reads_turn : (start reads later : List ℕ) (calls : List DiskCall) (i : ℕ) (call : DiskCall)
    → i < length calls → call ≡ get_or calls i call → reads ≡ reads_after start (take i calls) → later ≡ done call reads → later ≡ reads_after start (take (i + 1) calls)
reads_turn start reads later calls i call lt at is now =
    let more : take (i + 1) calls ≡ take i calls ++ call ∷ [] = take_more calls i call lt ∙ ap (λ d. take i calls ++ d ∷ []) (sym at) in
    now ∙ ap (λ r. done call r) is ∙ sym (reads_push start (take i calls) call) ∙ ap (λ l. reads_after start l) (sym more)

pub same_samples : (start begun : List ℕ) (calls kept : List DiskCall) (part : List DiskCall) (moment : ℕ) (files : List (List ℕ))
    → begun ≡ start → kept ≡ calls → part ≡ take moment kept
    → ((file : List ℕ) → In file files ↔ left is_sampled begun (λ f. f ≡ begun) part file)
    → (file : List ℕ) → In file files ↔ left is_sampled start (λ f. f ≡ start) (take moment calls) file
same_samples start begun calls kept part moment files begun_is kept_is part_is samples file =
    let P : List ℕ → Type 0 = λ s. In file files ↔ left is_sampled s (λ f. f ≡ s) part file in
    let Q : List DiskCall → Type 0 = λ l. In file files ↔ left is_sampled start (λ f. f ≡ start) l file in
    subst Q (part_is ∙ ap (λ l. take moment l) kept_is) (subst P begun_is (samples file))

pub front_part : {X : Type 0} (xs : List X) (count moment : ℕ) → count ≡ min (length xs) moment → take count xs ≡ take moment xs
front_part xs count moment is = let same : count ≡ min moment (length xs) = omega (arith, is) in ap (λ (n : ℕ). take n xs) same ∙ take_min moment xs

-- a write that is cut short anywhere
torn_part : (file : List ℕ) (at n : ℕ) (part : List ℕ) → length part ≤ n → Torn at n file (put file at part)
torn_part file at n part short =
    let m : ℕ = length part in
    let sum : at + m + (n - m) ≡ at + n = omega (arith, short) in
    let past : (l : List ℕ) → drop (at + n) l ≡ drop (n - m) (drop (at + m) l) = λ l. ap (λ (k : ℕ). drop k l) (sym sum) ∙ sym (drop-drop (n - m) (at + m) l) in
    record {
      before = before_put file at part;
      behind = past (put file at part) ∙ ap (λ (l : List ℕ). drop (n - m) l) (behind_put file at part) ∙ sym (past file);
      no_shorter = omega (arith, length-put file at part);
      no_longer = omega (arith, length-put file at part, short);
    }

sampled_torn : (call : DiskCall) (reads : List ℕ) (before other : List ℕ → Type 0) → ((f : List ℕ) → before f → other f) → (file : List ℕ) → is_sampled call reads before file → may_tear call reads other file
sampled_torn (Look made) reads before other to file is = to file is
sampled_torn (Write at bytes made) reads before other to file (was, is, inl missing) = (was, to was is, subst (λ f. Torn at (length bytes) was f) (sym missing) (torn_same was at (length bytes)))
sampled_torn (Write at bytes made) reads before other to file (was, is, inr (inl first)) =
    (was, to was is, subst (λ f. Torn at (length bytes) was f) (sym first) (torn_part was at (length bytes) (take 1 bytes) (omega (arith, length-take 1 bytes))))
sampled_torn (Write at bytes made) reads before other to file (was, is, inr (inr whole)) = (was, to was is, subst (λ f. Torn at (length bytes) was f) (sym whole) (torn_put was at bytes))
sampled_torn (Cut len made) reads before other to file (was, is, inl missing) = (was, to was is, subst (λ f. Shortened len was f) (sym missing) (shortened_same was len))
sampled_torn (Cut len made) reads before other to file (was, is, inr done_is) = (was, to was is, subst (λ f. Shortened len was f) (sym done_is) (shortened_take was len))
sampled_torn (Sync true) reads before other to file is = is
sampled_torn (Sync false) reads before other to file is = to file is

left_torn : (reads : List ℕ) (before other : List ℕ → Type 0) (calls : List DiskCall) → ((f : List ℕ) → before f → other f) → (file : List ℕ) → left is_sampled reads before calls file → left may_tear reads other calls file
left_torn reads before other [] to file is = to file is
left_torn reads before other (call ∷ calls) to file is =
    left_torn (done call reads) (is_sampled call reads before) (may_tear call reads other) calls (sampled_torn call reads before other to) file is

-- each sample is a file that a stop may leave
pub sample_is_image : (h : History) (moment : ℕ) (file : List ℕ) → samples_of h moment file → images_of h moment file
sample_is_image h moment file is = left_torn h.start (λ f. f ≡ h.start) (λ f. f ≡ h.start) (take moment h.calls) (λ f x. x) file is
