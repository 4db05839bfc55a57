-- A printed outline is read as it was.
use Rattle.std.proofs.Common.{◌≡◌, ℕ, true, false, List, [], ◌∷◌, ◌++◌, map, Option, Some, None, option_map, refl, sym, ap, ◌∙◌, inl, inr, append_assoc}
use Rattle.std.specs.Prelude.{unwrap_or}
use Rattle.og_text.specs.declared.place.Span.{Span}
use Rattle.og_text.specs.declared.token.TokenKind.{TokenKind}
use Rattle.og_text.specs.declared.token.TokenKind.TheVariants as kinds
use Rattle.og_text.specs.declared.token.Token.{Token}
use Rattle.og_parse.specs.Language.{Language, One, IfSymbol, Separated}
use Rattle.og_parse.specs.declared.raw.RawName.{RawName}
use Rattle.og_parse.specs.declared.raw.RawInt.{RawInt}
use Rattle.og_parse.specs.declared.raw.RawAux.{RawAux}
use Rattle.og_parse.specs.Trees.{Note, Seq, Outline}
use Rattle.og_parse.specs.Words.{name_of}
use Rattle.og_parse.specs.Grammar.{IsAux, IsListed, IsMain, IsSeq, IsOutline}
use Rattle.og_parse.proofs.Productions.{IsRestOfBlock}
use Rattle.og_print.specs.Plain.{nowhere, plain_name, plain_int, plain_aux, plain_note, plain_seq, plain}
use Rattle.og_print.specs.Print.{name_in, later_names_in, vars_in, aux_in, later_auxes_in, auxes_in, main_in, later_processes_in, processes_in, cobegin_in, outline_in, alone}
use Rattle.og_print.proofs.Reprint.{IsGood, Prints, prints_same, prints_as, prints_then, prints_last, prints_word, prints_end, prints_if_symbol, prints_separated, joined, behind, behind_some}
use Rattle.og_print.proofs.ReprintSums.{prints_name, prints_int, int_printed}
use Rattle.og_print.proofs.ReprintStatements.{note_printed, prints_note, seq_printed, prints_seq, rest_printed, prints_rest}

-- ---- declarations

prints_aux : (a : RawAux) (tokens : List Token) → IsAux a tokens → Prints IsAux plain_aux tokens (aux_in alone a) a
prints_aux a tokens d =
    let x = d.head in
    let d2 = d.is_second.is_second in
    let i = d2.head in
    let made : RawAux = record { name = x; value = i } in
    prints_same (aux_in alone) a made d2.is_second.0
    (prints_then d (kinds.Name x.name ∷ []) (kinds.Equal ∷ int_printed i) (prints_name x d.front d.is_first)
    (λ y ey. prints_word d.is_second kinds.Equal (int_printed i) tt
    (λ at. prints_last d2 (λ (j : RawInt). let r : RawAux = record { name = y; value = j } in r) (int_printed i) (prints_int i d2.front d2.is_first)
    (λ j ej. ap (λ (z : RawName). let r : RawAux = record { name = z; value = plain_int j } in r) ey ∙ ap (λ (z : RawInt). let r : RawAux = record { name = plain_name x; value = z } in r) ej))))

module _ {X : Type 0} (each : Language X) (plain_x : X → X) (printed : X → List TokenKind) (part : (x : X) (tokens : List Token) → each x tokens → Prints each plain_x tokens (printed x) x)
    (later : List X → List TokenKind) (none : later [] ≡ []) (some : (x : X) (xs : List X) → later (x ∷ xs) ≡ behind kinds.Comma printed x ++ later xs) where
  abbrev listed_printed : List X → List TokenKind
  listed_printed xs = joined printed later xs ++ kinds.Semicolon ∷ []

  prints_listed : (xs : List X) (tokens : List Token) → IsListed each xs tokens → Prints (IsListed each) (map plain_x) tokens (listed_printed xs) xs
  prints_listed xs tokens d =
      prints_same listed_printed xs d.head d.is_second.is_second.0
      (prints_then d (joined printed later d.head) (kinds.Semicolon ∷ []) (prints_separated kinds.Comma tt each each plain_x printed part later none some d.head d.front d.is_first)
      (λ ys es. prints_end (λ end. ys) kinds.Semicolon tt (λ end. es)))

  -- the list after a word has an element
  listed_some : (kind : TokenKind) (o : Option (List X)) (tokens : List Token) → IfSymbol kind (IsListed each) o tokens → o ≡ Some [] → ⊥
  listed_some kind o tokens (inl d) e =
      let l = d.is_first.is_second in
      let s = l.is_first in
      let whole : d.head ≡ s.head ∷ s.is_second.head = l.is_second.is_second.0 ∙ s.is_second.is_second.0 in
      let both : Some (s.head ∷ s.is_second.head) ≡ Some [] = ap (λ (xs : List X). Some xs) (sym whole) ∙ sym d.is_second.0 ∙ e in
      cc
  listed_some kind o tokens (inr d) e = let both : none_of ≡ some_of = sym d.0 ∙ e in cc where
    none_of : Option (List X)
    none_of = None

    some_of : Option (List X)
    some_of = Some []

  prints_listed_if : (kind : TokenKind) → IsGood kind → (o : Option (List X)) (tokens : List Token) → IfSymbol kind (IsListed each) o tokens
      → Prints (IfSymbol kind (IsListed each)) (option_map (map plain_x)) tokens (behind_some kind listed_printed o) o
  prints_listed_if kind is o tokens d = prints_if_symbol kind is (IsListed each) (IsListed each) (map plain_x) listed_printed prints_listed o tokens d

abbrev name_printed : RawName → List TokenKind
name_printed x = name_in alone x

abbrev vars_listed : List RawName → List TokenKind
vars_listed xs = joined name_printed (later_names_in alone) xs ++ kinds.Semicolon ∷ []

abbrev auxes_listed : List RawAux → List TokenKind
auxes_listed xs = joined (aux_in alone) (later_auxes_in alone) xs ++ kinds.Semicolon ∷ []

vars_printed : (o : Option (List RawName)) → (o ≡ Some [] → ⊥) → behind_some kinds.Var vars_listed o ≡ vars_in alone (unwrap_or o [])
vars_printed None some = refl
vars_printed (Some []) some = absurd (some refl)
vars_printed (Some (x ∷ xs)) some = refl

auxes_printed : (o : Option (List RawAux)) → (o ≡ Some [] → ⊥) → behind_some kinds.Aux auxes_listed o ≡ auxes_in alone (unwrap_or o [])
auxes_printed None some = refl
auxes_printed (Some []) some = absurd (some refl)
auxes_printed (Some (x ∷ xs)) some = ap (λ (ks : List TokenKind). kinds.Aux ∷ ks) (append_assoc (aux_in alone x) (later_auxes_in alone xs) (kinds.Semicolon ∷ []))

prints_vars : (o : Option (List RawName)) (tokens : List Token) → IfSymbol kinds.Var (IsListed (One name_of)) o tokens
    → Prints (IfSymbol kinds.Var (IsListed (One name_of))) (option_map (map plain_name)) tokens (vars_in alone (unwrap_or o [])) o
prints_vars o tokens d =
    prints_as (behind_some kinds.Var vars_listed o) (vars_in alone (unwrap_or o []))
    (vars_printed o (listed_some (One name_of) plain_name name_printed prints_name (later_names_in alone) refl (λ x xs. refl) kinds.Var o tokens d))
    (prints_listed_if (One name_of) plain_name name_printed prints_name (later_names_in alone) refl (λ x xs. refl) kinds.Var tt o tokens d)

prints_auxes : (o : Option (List RawAux)) (tokens : List Token) → IfSymbol kinds.Aux (IsListed IsAux) o tokens
    → Prints (IfSymbol kinds.Aux (IsListed IsAux)) (option_map (map plain_aux)) tokens (auxes_in alone (unwrap_or o [])) o
prints_auxes o tokens d =
    prints_as (behind_some kinds.Aux auxes_listed o) (auxes_in alone (unwrap_or o []))
    (auxes_printed o (listed_some IsAux plain_aux (aux_in alone) prints_aux (later_auxes_in alone) refl (λ x xs. refl) kinds.Aux o tokens d))
    (prints_listed_if IsAux plain_aux (aux_in alone) prints_aux (later_auxes_in alone) refl (λ x xs. refl) kinds.Aux tt o tokens d)

-- ---- processes and the parts of main

main_printed : (o : Option Seq) → behind_some kinds.Begin rest_printed o ≡ main_in alone true o
main_printed None = refl
main_printed (Some s) = refl

prints_main : (n : ℕ) (o : Option Seq) (tokens : List Token) → IsMain n o tokens → Prints (IsMain n) (option_map plain_seq) tokens (main_in alone true o) o
prints_main n o tokens d =
    prints_as (behind_some kinds.Begin rest_printed o) (main_in alone true o) (main_printed o)
    (prints_if_symbol kinds.Begin tt (IsRestOfBlock (IsSeq n false n)) (IsRestOfBlock (IsSeq n false n)) plain_seq rest_printed (prints_rest (IsSeq n false n) (prints_seq n false n)) o tokens d)

processes_printed : (ss : List Seq) → joined seq_printed (later_processes_in alone true) ss ≡ processes_in alone true ss
processes_printed [] = refl
processes_printed (s ∷ ss) = refl

prints_processes : (n : ℕ) (ss : List Seq) (tokens : List Token) → Separated kinds.Parallel (IsSeq n true n) ss tokens
    → Prints (Separated kinds.Parallel (IsSeq n true n)) (map plain_seq) tokens (processes_in alone true ss) ss
prints_processes n ss tokens d =
    prints_as (joined seq_printed (later_processes_in alone true) ss) (processes_in alone true ss) (processes_printed ss)
    (prints_separated kinds.Parallel tt (IsSeq n true n) (IsSeq n true n) plain_seq seq_printed (prints_seq n true n) (later_processes_in alone true) refl (λ x xs. refl) ss tokens d)

-- ---- outlines

abbrev made : Option (List RawName) → Option (List RawAux) → Note → Option Seq → Span → List Seq → Option Seq → Note → Outline
made vars auxes pre prologue cobegin processes epilogue post =
    record { vars = unwrap_or vars []; auxes = unwrap_or auxes []; pre = pre; prologue = prologue; cobegin = cobegin; processes = processes; epilogue = epilogue; post = post }

map-unwrap : {X : Type 0} (f : X → X) (o : Option (List X)) → map f (unwrap_or o []) ≡ unwrap_or (option_map (map f) o) []
map-unwrap f None = refl
map-unwrap f (Some xs) = refl

plain_made : (vars : Option (List RawName)) (auxes : Option (List RawAux)) (pre : Note) (prologue : Option Seq) (cobegin : Span) (processes : List Seq) (epilogue : Option Seq) (post : Note)
    → plain (made vars auxes pre prologue cobegin processes epilogue post)
    ≡ made (option_map (map plain_name) vars) (option_map (map plain_aux) auxes) (plain_note pre) (option_map plain_seq prologue) nowhere (map plain_seq processes) (option_map plain_seq epilogue) (plain_note post)
plain_made vars auxes pre prologue cobegin processes epilogue post = rw (map-unwrap plain_name vars, map-unwrap plain_aux auxes) refl

same_parts : (v v' : Option (List RawName)) (a a' : Option (List RawAux)) (p p' : Note) (l l' : Option Seq) (ss ss' : List Seq) (e e' : Option Seq) (q q' : Note)
    → v ≡ v' → a ≡ a' → p ≡ p' → l ≡ l' → ss ≡ ss' → e ≡ e' → q ≡ q' → made v a p l nowhere ss e q ≡ made v' a' p' l' nowhere ss' e' q'
same_parts v v' a a' p p' l l' ss ss' e e' q q' ev ea ep el es ee eq = rw (ev, ea, ep, el, es, ee, eq) refl

pub prints_outline : (n : ℕ) (tree : Outline) (tokens : List Token) → IsOutline n tree tokens → Prints (IsOutline n) plain tokens (outline_in alone true tree) tree
prints_outline n tree tokens d =
    let vars = d.head in
    let d1 = d.is_second in
    let auxes = d1.head in
    let d2 = d1.is_second in
    let pre = d2.head in
    let d3 = d2.is_second in
    let prologue = d3.head in
    let d4 = d3.is_second in
    let d5 = d4.is_second in
    let processes = d5.head in
    let d6 = d5.is_second in
    let d7 = d6.is_second in
    let epilogue = d7.head in
    let d8 = d7.is_second in
    let post = d8.head in
    let whole = made vars auxes pre prologue d4.head processes epilogue post in
    let k8 = note_printed post in
    let k7 = main_in alone true epilogue ++ k8 in
    let k6 = kinds.Coend ∷ k7 in
    let k5 = processes_in alone true processes ++ k6 in
    let k4 = kinds.Cobegin ∷ k5 in
    let k3 = main_in alone true prologue ++ k4 in
    let k2 = note_printed pre ++ k3 in
    let k1 = auxes_in alone (unwrap_or auxes []) ++ k2 in
    let k0 = vars_in alone (unwrap_or vars []) ++ k1 in
    let grouped : k4 ≡ cobegin_in alone true processes ++ k7 = ap (λ (ks : List TokenKind). kinds.Cobegin ∷ ks) (sym (append_assoc (processes_in alone true processes) (kinds.Coend ∷ []) k7)) in
    let same_printed : k0 ≡ outline_in alone true whole =
    ap (λ (ks : List TokenKind). vars_in alone (unwrap_or vars []) ++ (auxes_in alone (unwrap_or auxes []) ++ (note_printed pre ++ (main_in alone true prologue ++ ks)))) grouped in
    prints_same (outline_in alone true) tree whole d8.is_second.0
    (prints_as k0 (outline_in alone true whole) same_printed
    (prints_then d (vars_in alone (unwrap_or vars [])) k1 (prints_vars vars d.front d.is_first)
    (λ v ev. prints_then d1 (auxes_in alone (unwrap_or auxes [])) k2 (prints_auxes auxes d1.front d1.is_first)
    (λ a ea. prints_then d2 (note_printed pre) k3 (prints_note n pre d2.front d2.is_first)
    (λ p ep. prints_then d3 (main_in alone true prologue) k4 (prints_main n prologue d3.front d3.is_first)
    (λ l el. prints_word d4 kinds.Cobegin k5 tt
    (λ at. prints_then d5 (processes_in alone true processes) k6 (prints_processes n processes d5.front d5.is_first)
    (λ ss es. prints_word d6 kinds.Coend k7 tt
    (λ end. prints_then d7 (main_in alone true epilogue) k8 (prints_main n epilogue d7.front d7.is_first)
    (λ e ee. prints_last d8 (λ (z : Note). made v a p l at ss e z) k8 (prints_note n post d8.front d8.is_first)
    (λ q eq.
    plain_made v a p l at ss e q
    ∙ same_parts (option_map (map plain_name) v) (option_map (map plain_name) vars) (option_map (map plain_aux) a) (option_map (map plain_aux) auxes)
    (plain_note p) (plain_note pre) (option_map plain_seq l) (option_map plain_seq prologue) (map plain_seq ss) (map plain_seq processes)
    (option_map plain_seq e) (option_map plain_seq epilogue) (plain_note q) (plain_note post) ev ea ep el es ee eq
    ∙ sym (plain_made vars auxes pre prologue d4.head processes epilogue post))))))))))))
