-- Lines that were heard, and the items that were kept of them.
use Rattle.std.proofs.Common.{rules, ◌≡◌, ℕ, List, [], ◌∷◌, ◌++◌, map, Option, refl, sym, ap, ◌∙◌, subst, append_assoc}
use Rattle.std.proofs.lemmas.List.{map-append}
use Rattle.std.proofs.lemmas.List.Concat.{flat_map-append}
use Rattle.std.specs.Io.KnownBytes.{Appends}
use Rattle.sp_io.specs.Streams.{AppendsFront}
use Rattle.sp_io.proofs.Known.{Appends-none, Appends-more}
use Rattle.sp_text.specs.Grammar.{said}
use Rattle.sp_text.specs.declared.form.Form.{Form}
use Rattle.sp_text.specs.Texts.{item_text, render}
use Rattle.sp_text.specs.Transcripts.{heard, heard_line}
use Rattle.sp_text.specs.declared.types.Item.{Item}
use Rattle.sp_lines.specs.declared.fault.Fault.{Fault}
use Rattle.sp_lines.specs.declared.fault.Fault.TheVariants.{Write, Disk, Memory}
use Rattle.sp_lines.specs.Keeping.{WrittenAt, KeptAt, Hears, HearsUntil}

append-nil : {A : Type 0} (x : List A) → x ++ [] ≡ x
append-nil x = search rules

pub heard-append : (form : Form) (a b : List Item) → heard form (a ++ b) ≡ heard form a ++ heard form b
heard-append form [] b = refl
heard-append form (x ∷ a) b = ap (λ l. heard_line form x ++ l) (heard-append form a b) ∙ sym (append_assoc (heard_line form x) (heard form a) (heard form b))

pub render-append : (form : Form) (a b : List Item) → render form (a ++ b) ≡ render form a ++ render form b
render-append form a b = flat_map-append (item_text form) a b

render_one : (form : Form) (item : Item) → render form (item ∷ []) ≡ item_text form item
render_one form item = append-nil (item_text form item)

heard_one : (form : Form) (item : Item) → heard form (item ∷ []) ≡ heard_line form item
heard_one form item = append-nil (heard_line form item)

-- nothing was heard
pub hears_none : (form : Form) (is : List Item) (old : Option (List ℕ)) → Hears form [] [] is is old old
hears_none form is old = record { kept = sym (append-nil is); heard_as = refl; written = Appends-none old }

-- lines after lines
pub hears_more : (form : Form) (l m : List (List ℕ)) (xs ys is js ks : List Item) (old mid new : Option (List ℕ))
    → Hears form l xs is js old mid → Hears form m ys js ks mid new → Hears form (l ++ m) (xs ++ ys) is ks old new
hears_more form l m xs ys is js ks old mid new p q = record {
  kept = q.kept ∙ ap (λ x. x ++ ys) p.kept ∙ append_assoc is xs ys;
  heard_as = heard-append form xs ys ∙ ap (λ x. x ++ heard form ys) p.heard_as ∙ ap (λ x. map (said form) l ++ x) q.heard_as
      ∙ sym (map-append (said form) l m);
  written = let P : List ℕ → Type 0 = λ x. Appends old new x in
      subst P (sym (render-append form xs ys)) (Appends-more old mid new _ _ p.written q.written);
}

-- an item that was kept: that of a line, or a late one of none
pub hears_item : (form : Form) (lines : List (List ℕ)) (item : Item) (is js : List Item) (old new : Option (List ℕ))
    → heard_line form item ≡ map (said form) lines → js ≡ is ++ item ∷ [] → Appends old new (item_text form item)
    → Hears form lines (item ∷ []) is js old new
hears_item form lines item is js old new e kept wrote = record {
  kept = kept;
  heard_as = heard_one form item ∙ e;
  written = let P : List ℕ → Type 0 = λ x. Appends old new x in subst P (sym (render_one form item)) wrote;
}

Appends-front : (a b c : Option (List ℕ)) (x y : List ℕ) → Appends a b x → AppendsFront b c y → AppendsFront a c (x ++ y)
Appends-front a b c x y p q = (x ++ q.0, q.1, ap (λ l. x ++ l) q.2 ∙ sym (append_assoc x q.0 q.1), Appends-more a b c x q.0 p q.3)

pub written_more : (fault : Fault) (a b c : Option (List ℕ)) (x y : List ℕ) → Appends a b x → WrittenAt fault b c y → WrittenAt fault a c (x ++ y)
written_more Write a b c x y p q = Appends-front a b c x y p q
written_more Disk a b c x y p q = Appends-more a b c x y p q
written_more Memory a b c x y p q = Appends-more a b c x y p q

-- a fault before a line had an answer
written_none : (fault : Fault) (a b : Option (List ℕ)) → Appends a b [] → WrittenAt fault a b []
written_none Write a b p = ([], [], refl, p)
written_none Disk a b p = p
written_none Memory a b p = p

pub until_none : (fault : Fault) (form : Form) (l : List (List ℕ)) (is js : List Item) (old new : Option (List ℕ))
    → js ≡ is → Appends old new [] → HearsUntil fault form l [] is js old new
until_none fault form l is js old new e w = record {
  kept = e ∙ sym (append-nil is);
  heard_as = record { front = []; unanswered = l; parts = refl; heard_as = refl };
  written = written_none fault old new w;
}

-- a fault once lines were heard
pub until_heard : (fault : Fault) (form : Form) (l : List (List ℕ)) (xs is js : List Item) (old new : Option (List ℕ))
    → Hears form l xs is js old new → HearsUntil fault form l xs is js old new
until_heard fault form l xs is js old new h = record {
  kept = h.kept;
  heard_as = record { front = l; unanswered = []; parts = sym (append-nil l); heard_as = h.heard_as };
  written = at_fault fault;
}
  where
    whole : Appends old new (render form xs) → AppendsFront old new (render form xs)
    whole w = (render form xs, [], sym (append-nil (render form xs)), w)

    at_fault : (f : Fault) → WrittenAt f old new (render form xs)
    at_fault Write = whole h.written
    at_fault Disk = h.written
    at_fault Memory = h.written

-- a fault in later lines
pub until_later : (fault : Fault) (form : Form) (l m : List (List ℕ)) (xs ys is js ks : List Item) (old mid new : Option (List ℕ))
    → Hears form l xs is js old mid → HearsUntil fault form m ys js ks mid new → HearsUntil fault form (l ++ m) (xs ++ ys) is ks old new
until_later fault form l m xs ys is js ks old mid new p q =
    let W : List ℕ → Type 0 = λ x. WrittenAt fault old new x in
    let h = q.heard_as in
    record {
      kept = q.kept ∙ ap (λ x. x ++ ys) p.kept ∙ append_assoc is xs ys;
      heard_as = record {
        front = l ++ h.front;
        unanswered = h.unanswered;
        parts = ap (λ x. l ++ x) h.parts ∙ sym (append_assoc l h.front h.unanswered);
        heard_as = heard-append form xs ys ∙ ap (λ x. x ++ heard form ys) p.heard_as ∙ ap (λ x. map (said form) l ++ x) h.heard_as
            ∙ sym (map-append (said form) l h.front);
      };
      written = subst W (sym (render-append form xs ys)) (written_more fault old mid new _ _ p.written q.written);
    }

-- a fault before further lines
pub until_more : (fault : Fault) (form : Form) (l m : List (List ℕ)) (xs is js : List Item) (old new : Option (List ℕ))
    → HearsUntil fault form l xs is js old new → HearsUntil fault form (l ++ m) xs is js old new
until_more fault form l m xs is js old new p =
    let h = p.heard_as in
    record {
      kept = p.kept;
      heard_as = record {
        front = h.front;
        unanswered = h.unanswered ++ m;
        parts = ap (λ x. x ++ m) h.parts ∙ append_assoc h.front h.unanswered m;
        heard_as = h.heard_as;
      };
      written = p.written;
    }

-- an item whose keeping failed by a write: it was kept, and a front of its text written
pub until_item : (form : Form) (lines : List (List ℕ)) (item : Item) (is js : List Item) (old new : Option (List ℕ))
    → heard_line form item ≡ map (said form) lines → KeptAt Write form is js item old new → HearsUntil Write form lines (item ∷ []) is js old new
until_item form lines item is js old new e k = record {
  kept = k.0;
  heard_as = record { front = lines; unanswered = []; parts = sym (append-nil lines); heard_as = heard_one form item ∙ e };
  written = let P : List ℕ → Type 0 = λ x. AppendsFront old new x in subst P (sym (render_one form item)) k.1;
}
