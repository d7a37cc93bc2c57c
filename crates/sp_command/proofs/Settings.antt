-- What sets an option, and what is read of it.
use Rattle.std.proofs.Common.{◌≡◌, ℕ, ◌<◌, ◌^◌, Bool, true, false, List, Option, Some, None, refl, sym, ap, ◌∙◌, cond, arith}
use Rattle.std.specs.Prelude.{is_some, bytes_eq}
use Rattle.std.specs.Option.{option_map}
use Rattle.std.proofs.lemmas.Option.{none-some, same_Some}
use Rattle.std.proofs.lemmas.Slice.Eq.{bytes_eq-Decides}
use Rattle.sp_command.specs.declared.options.Key.{Key}
use Rattle.sp_command.specs.declared.options.Key.TheVariants.{Journal, Max, Min, Seed, Count}
use Rattle.sp_command.specs.declared.options.Options.{Options}
use Rattle.sp_command.specs.declared.words.Command.{Command}
use Rattle.sp_command.specs.declared.words.Command.TheVariants.{Play, Drill, Dump, Check, Compact, Make, Stress}
use Rattle.sp_command.specs.Names.{is_name}
use Rattle.sp_command.specs.Grammar.{Sets, Writes, key_word, command_word}
use Rattle.sp_command.specs.Reading.{put_in, free_number, free_name, key_of, command_of}
use Rattle.sp_command.proofs.Numerals.{number_of-Writes, Writes-number_of}

-- what a choice that is there was made of
pub mapped : {A B P : Type 0} (f : A → B) (o : Option A) (y : B) → option_map f o ≡ Some y → ((x : A) → o ≡ Some x → f x ≡ y → P) → P
mapped f None y e go = absurd (none-some y e)
mapped f (Some x) y e go = go x refl (same_Some (f x) y e)

pub picked : {A P : Type 0} (b : Bool) (a c : A) (rest : Option A) → cond b (Some a) rest ≡ Some c → (b ≡ true → a ≡ c → P) → (rest ≡ Some c → P) → P
picked true a c rest e hit miss = hit refl (same_Some a c e)
picked false a c rest e hit miss = miss e

free_number-read : {A : Type 0} (o : Option A) (least most n : ℕ) (word : List ℕ) → free_number (is_some o) least most word ≡ Some n
    → Writes least most n word × (o ≡ None)
free_number-read None least most n word e = (Writes-number_of least most n word e, refl)
free_number-read (Some x) least most n word e = absurd (none-some n e)

free_number-set : {A : Type 0} (o : Option A) (least most n : ℕ) (word : List ℕ) → most < 2 ^ 64 → o ≡ None → Writes least most n word
    → free_number (is_some o) least most word ≡ Some n
free_number-set None least most n word small free w = number_of-Writes least most n word small w
free_number-set (Some x) least most n word small free w = absurd (none-some x (sym free))

free_name-read : {A : Type 0} (o : Option A) (word name : List ℕ) → free_name (is_some o) word ≡ Some name → (is_name word ≡ true) × (o ≡ None) × (word ≡ name)
free_name-read None word name e = picked (is_name word) word name None e (λ is same. (is, refl, same)) (λ miss. absurd (none-some name miss))
free_name-read (Some x) word name e = absurd (none-some name e)

free_name-set : {A : Type 0} (o : Option A) (word : List ℕ) → o ≡ None → is_name word ≡ true → free_name (is_some o) word ≡ Some word
free_name-set None word free is = rw is refl
free_name-set (Some x) word free is = absurd (none-some x (sym free))

pub put_in-Sets : (key : Key) (word : List ℕ) (o p : Options) → put_in key word o ≡ Some p → Sets key word o p
unfolding put_in
put_in-Sets Journal word o p e = mapped _ (free_name (is_some o.journal) word) p e (λ n read same.
    let is = free_name-read o.journal word n read in (is.0, is.1, sym same ∙ ap (λ m. record o { journal = Some m }) (sym is.2)))
put_in-Sets Max word o p e = mapped _ (free_number (is_some o.max) 4 64 word) p e (λ n read same.
    let is = free_number-read o.max 4 64 n word read in (n, is.0, is.1, sym same))
put_in-Sets Min word o p e = mapped _ (free_number (is_some o.min) 2 32 word) p e (λ n read same.
    let is = free_number-read o.min 2 32 n word read in (n, is.0, is.1, sym same))
put_in-Sets Seed word o p e = mapped _ (free_number (is_some o.seed) 1 2147483646 word) p e (λ n read same.
    let is = free_number-read o.seed 1 2147483646 n word read in (n, is.0, is.1, sym same))
put_in-Sets Count word o p e = mapped _ (free_number (is_some o.count) 0 10000 word) p e (λ n read same.
    let is = free_number-read o.count 0 10000 n word read in (n, is.0, is.1, sym same))

pub Sets-put_in : (key : Key) (word : List ℕ) (o p : Options) → Sets key word o p → put_in key word o ≡ Some p
unfolding put_in
Sets-put_in Journal word o p s = ap (option_map (λ n. record o { journal = Some n })) (free_name-set o.journal word s.1 s.0) ∙ ap Some (sym s.2)
Sets-put_in Max word o p s = ap (option_map (λ n. record o { max = Some n })) (free_number-set o.max 4 64 s.0 word (omega arith) s.2 s.1) ∙ ap Some (sym s.3)
Sets-put_in Min word o p s = ap (option_map (λ n. record o { min = Some n })) (free_number-set o.min 2 32 s.0 word (omega arith) s.2 s.1) ∙ ap Some (sym s.3)
Sets-put_in Seed word o p s = ap (option_map (λ n. record o { seed = Some n })) (free_number-set o.seed 1 2147483646 s.0 word (omega arith) s.2 s.1) ∙ ap Some (sym s.3)
Sets-put_in Count word o p s = ap (option_map (λ n. record o { count = Some n })) (free_number-set o.count 0 10000 s.0 word (omega arith) s.2 s.1) ∙ ap Some (sym s.3)

pub is_text : (word text : List ℕ) → bytes_eq word text ≡ true → word ≡ text
is_text word text = (bytes_eq-Decides word text).0

key_found : (a key : Key) (word : List ℕ) → bytes_eq word (key_word a) ≡ true → a ≡ key → word ≡ key_word key
key_found a key word is same = is_text word (key_word a) is ∙ ap key_word same

pub key_of-word : (word : List ℕ) (key : Key) → key_of word ≡ Some key → word ≡ key_word key
unfolding key_of
key_of-word word key e =
    picked _ Journal key _ e (key_found Journal key word) (λ e. picked _ Max key _ e (key_found Max key word) (λ e. picked _ Min key _ e (key_found Min key word)
    (λ e. picked _ Seed key _ e (key_found Seed key word) (λ e. picked _ Count key _ e (key_found Count key word) (λ miss. absurd (none-some key miss))))))

command_found : (a command : Command) (word : List ℕ) → bytes_eq word (command_word a) ≡ true → a ≡ command → word ≡ command_word command
command_found a command word is same = is_text word (command_word a) is ∙ ap command_word same

pub command_of-word : (word : List ℕ) (command : Command) → command_of word ≡ Some command → word ≡ command_word command
unfolding command_of
command_of-word word c e =
    picked _ Play c _ e (command_found Play c word) (λ e. picked _ Drill c _ e (command_found Drill c word) (λ e. picked _ Dump c _ e (command_found Dump c word)
    (λ e. picked _ Check c _ e (command_found Check c word) (λ e. picked _ Compact c _ e (command_found Compact c word) (λ e. picked _ Make c _ e (command_found Make c word)
    (λ e. picked _ Stress c _ e (command_found Stress c word) (λ miss. absurd (none-some c miss))))))))

pub command_of-is : (command : Command) → command_of (command_word command) ≡ Some command
unfolding command_of
command_of-is Play = refl
command_of-is Drill = refl
command_of-is Dump = refl
command_of-is Check = refl
command_of-is Compact = refl
command_of-is Make = refl
command_of-is Stress = refl
