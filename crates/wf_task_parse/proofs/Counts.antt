-- A value has no more parts than its text has bytes, and one.
use Rattle.std.proofs.Common.{◌≡◌, ℕ, zero, suc, ◌+◌, ◌<◌, ◌≤◌, Bool, true, false, cond, List, [], ◌∷◌, length, Option, Some, None, option_map, option_and_then, Result, Ok, Err, refl, sym, ap, subst, arith}
use Rattle.std.specs.declared.cmp.Ordering.{Ordering}
use Rattle.std.specs.declared.cmp.Ordering.TheVariants.{Less, Equal, Greater}
use Rattle.std.specs.Ordering.{nat_cmp, match_ordering}
use Rattle.std.specs.Cmp.Lexicographic.{slice_cmp}
use Rattle.std.specs.Str.{is_utf8}
use Rattle.json.specs.Token.{Token}
use Rattle.json.specs.Token as token
use Rattle.json.specs.Lex as lexer
use Rattle.json.specs.Lex.{Lexeme, Mode, Place, Class, lex, lex_byte, class, punctuate, place_token, if_allowed, begins_colon, may_begin, may_close, tokens}
use Rattle.json.specs.Json as json
use Rattle.json.specs.Json.{Parse, parse_map, after_end_array, read_key, items_step, members_step, items, members, value_with, value, if_last}
use Rattle.serde_json.specs.Data.{Data, null, boolean, number, string, array, object, Items, no_items, item, Members, no_members, member, put}
use Rattle.serde_json.specs.Find.{get, get_member, as_array}
use Rattle.serde_json.specs.Read.{read, of_json, of_items, of_members, number_of, max_depth}
use Rattle.wf_task_parse.specs.Shape.{with_first, each}
use Rattle.wf_task_parse.specs.declared.fault.TaskFault.TheVariants as fault
use Rattle.wf_task_parse.specs.RawTask.{or_fault}
use Rattle.wf_task_parse.specs.Text.{json_of}
use Rattle.wf_task_parse.specs.Parts.{parts, item_parts, member_parts, IsOfText, IsPart}
use Rattle.wf_task_parse.proofs.Vertices.{found_both, first_and_rest}
use Rattle.wf_model.proofs.Lemmas.{some_of}

-- ---- from bytes to tokens

length-lex_byte : (m : Mode) (c : Class) (x : ℕ) (xs : List ℕ) (k : Mode → List Lexeme) (n : ℕ) → ((next : Mode) → length (k next) ≤ n) → length (lex_byte m c x xs k) ≤ suc n
length-lex_byte lexer.between lexer.quote x xs k n h = omega (arith, h lexer.in_string)
length-lex_byte lexer.between lexer.backslash x xs k n h = omega (arith, h lexer.in_word)
length-lex_byte lexer.between lexer.operator x xs k n h = omega (arith, h lexer.between)
length-lex_byte lexer.between lexer.space x xs k n h = omega (arith, h lexer.between)
length-lex_byte lexer.between lexer.other x xs k n h = omega (arith, h lexer.in_word)
length-lex_byte lexer.in_word lexer.quote x xs k n h = omega (arith, h lexer.in_word)
length-lex_byte lexer.in_word lexer.backslash x xs k n h = omega (arith, h lexer.in_word)
length-lex_byte lexer.in_word lexer.operator x xs k n h = omega (arith, h lexer.between)
length-lex_byte lexer.in_word lexer.space x xs k n h = omega (arith, h lexer.between)
length-lex_byte lexer.in_word lexer.other x xs k n h = omega (arith, h lexer.in_word)
length-lex_byte lexer.in_string lexer.quote x xs k n h = omega (arith, h lexer.between)
length-lex_byte lexer.in_string lexer.backslash x xs k n h = omega (arith, h lexer.in_escape)
length-lex_byte lexer.in_string lexer.operator x xs k n h = omega (arith, h lexer.in_string)
length-lex_byte lexer.in_string lexer.space x xs k n h = omega (arith, h lexer.in_string)
length-lex_byte lexer.in_string lexer.other x xs k n h = omega (arith, h lexer.in_string)
length-lex_byte lexer.in_escape c x xs k n h = omega (arith, h lexer.in_string)

length-lex : (m : Mode) (xs : List ℕ) → length (lex m xs) ≤ length xs
unfolding lex
length-lex m [] = omega arith
length-lex m (x ∷ xs) = length-lex_byte m (class x) x xs (λ next. lex next xs) (length xs) (λ next. length-lex next xs)

length-if_allowed : (b : Bool) (t : Token) (k : Place → List Token) (p : Place) (n : ℕ) → 0 < n → length (k p) ≤ n → length (if_allowed b t k p) ≤ suc n
length-if_allowed true t k p n some h = omega (arith, h)
length-if_allowed false t k p n some h = omega (arith, some)

length-place_token : (p : Place) (t : Token) (b : Bool) (k : Place → List Token) (n : ℕ) → 0 < n → ((next : Place) → length (k next) ≤ n) → length (place_token p t b k) ≤ suc n
length-place_token p token.begin_object b k n some h = length-if_allowed (may_begin p) token.begin_object k lexer.fresh n some (h lexer.fresh)
length-place_token p token.end_object b k n some h = length-if_allowed (may_close p) token.end_object k lexer.after_value n some (h lexer.after_value)
length-place_token p token.begin_array b k n some h = length-if_allowed (may_begin p) token.begin_array k lexer.fresh n some (h lexer.fresh)
length-place_token p token.end_array b k n some h = length-if_allowed (may_close p) token.end_array k lexer.after_value n some (h lexer.after_value)
length-place_token p (token.key s) b k n some h = omega (arith, some)
length-place_token p (token.string s) true k n some h = length-if_allowed (may_begin p) (token.key s) k lexer.after_key n some (h lexer.after_key)
length-place_token p (token.string s) false k n some h = length-if_allowed (may_begin p) (token.string s) k lexer.after_value n some (h lexer.after_value)
length-place_token p (token.number s) b k n some h = length-if_allowed (may_begin p) (token.number s) k lexer.after_value n some (h lexer.after_value)
length-place_token p (token.boolean c) b k n some h = length-if_allowed (may_begin p) (token.boolean c) k lexer.after_value n some (h lexer.after_value)
length-place_token p token.null b k n some h = length-if_allowed (may_begin p) token.null k lexer.after_value n some (h lexer.after_value)
length-place_token p token.bad b k n some h = omega (arith, some)

length-punctuate : (p : Place) (ls : List Lexeme) → length (punctuate p ls) ≤ suc (length ls)
unfolding punctuate
length-punctuate lexer.fresh [] = omega arith
length-punctuate lexer.after_value [] = omega arith
length-punctuate lexer.after_comma [] = omega arith
length-punctuate lexer.after_key [] = omega arith
length-punctuate p (lexer.token t ∷ ls) = length-place_token p t (begins_colon ls) (λ next. punctuate next ls) (suc (length ls)) (omega arith) (λ next. length-punctuate next ls)
length-punctuate lexer.fresh (lexer.comma ∷ ls) = omega arith
length-punctuate lexer.after_value (lexer.comma ∷ ls) = omega (arith, length-punctuate lexer.after_comma ls)
length-punctuate lexer.after_comma (lexer.comma ∷ ls) = omega arith
length-punctuate lexer.after_key (lexer.comma ∷ ls) = omega arith
length-punctuate lexer.fresh (lexer.colon ∷ ls) = omega arith
length-punctuate lexer.after_value (lexer.colon ∷ ls) = omega arith
length-punctuate lexer.after_comma (lexer.colon ∷ ls) = omega arith
length-punctuate lexer.after_key (lexer.colon ∷ ls) = omega (arith, length-punctuate lexer.fresh ls)

length-tokens : (text : List ℕ) → length (tokens text) ≤ suc (length text)
length-tokens text = omega (arith, length-punctuate lexer.fresh (lex lexer.between text), length-lex lexer.between text)

-- ---- from tokens to a value

abbrev mutual
  tree_parts : json.Json → ℕ
  tree_parts json.null = 1
  tree_parts (json.boolean b) = 1
  tree_parts (json.number s) = 1
  tree_parts (json.string s) = 1
  tree_parts (json.array js) = suc (tree_items js)
  tree_parts (json.object ms) = suc (tree_members ms)

  tree_items : json.Items → ℕ
  tree_items json.no_items = 0
  tree_items (json.item j js) = tree_parts j + tree_items js

  tree_members : json.Members → ℕ
  tree_members json.no_members = 0
  tree_members (json.member k j ms) = tree_parts j + tree_members ms

-- what was read has no more parts than tokens were taken
abbrev Takes : {A : Type 0} → (A → ℕ) → ℕ → Option (A × List Token) → Type 0
Takes f n None = Unit {0}
Takes f n (Some p) = f p.0 + length p.1 ≤ n

abbrev TakesAlways : {A : Type 0} → (A → ℕ) → Parse A → Type 0
TakesAlways f p = (ts : List Token) → Takes f (length ts) (p ts)

mapped : {A B : Type 0} (f : A → ℕ) (g : B → ℕ) (m n : ℕ) (h : A → B) → ((a : A) (k : ℕ) → f a + k ≤ m → g (h a) + k ≤ n) → (o : Option (A × List Token)) → Takes f m o → Takes g n (parse_map h o)
mapped f g m n h more None x = tt
mapped f g m n h more (Some p) x = more p.0 (length p.1) x

then_more : {B : Type 0} (g : B → ℕ) (n : ℕ) (h : json.Json → B → B) → ((j : json.Json) (b : B) → g (h j b) ≡ tree_parts j + g b) → (more : Parse B) → TakesAlways g more
    → (o : Option (json.Json × List Token)) → Takes tree_parts n o → Takes g n (option_and_then (λ q. parse_map (h q.0) (more q.1)) o)
then_more g n h is more again None x = tt
then_more g n h is more again (Some q) x = mapped g g (length q.1) n (h q.0) (λ b k y. omega (arith, is q.0 b, x, y)) (more q.1) (again q.1)

array_end : (ts rest : List Token) → after_end_array ts ≡ Some rest → length rest ≤ length ts
array_end [] rest h = cc
array_end (token.begin_object ∷ ts) rest h = cc
array_end (token.end_object ∷ ts) rest h = cc
array_end (token.begin_array ∷ ts) rest h = cc
array_end (token.end_array ∷ ts) rest h = let same : ts ≡ rest = cc in omega (arith, ap length same)
array_end (token.key s ∷ ts) rest h = cc
array_end (token.string s ∷ ts) rest h = cc
array_end (token.number s ∷ ts) rest h = cc
array_end (token.boolean b ∷ ts) rest h = cc
array_end (token.null ∷ ts) rest h = cc
array_end (token.bad ∷ ts) rest h = cc

key_end : (ts : List Token) → Takes (λ (k : Option (List ℕ)). 0) (length ts) (read_key ts)
key_end [] = tt
key_end (token.begin_object ∷ ts) = tt
key_end (token.end_object ∷ ts) = omega arith
key_end (token.begin_array ∷ ts) = tt
key_end (token.end_array ∷ ts) = tt
key_end (token.key s ∷ ts) = omega arith
key_end (token.string s ∷ ts) = tt
key_end (token.number s ∷ ts) = tt
key_end (token.boolean b ∷ ts) = tt
key_end (token.null ∷ ts) = tt
key_end (token.bad ∷ ts) = tt

module _ (p : Parse json.Json) (one : TakesAlways tree_parts p) where
  item_turn : (more : Parse json.Items) → TakesAlways tree_items more → (ts : List Token) (o : Option (List Token)) → after_end_array ts ≡ o → Takes tree_items (length ts) (items_step p more ts o)
  item_turn more again ts (Some r) h = omega (arith, array_end ts r h)
  item_turn more again ts None h = then_more tree_items (length ts) json.item (λ j b. refl) more again (p ts) (one ts)

  takes-items : (n : ℕ) → TakesAlways tree_items (items p n)
  unfolding items
  takes-items zero ts = tt
  takes-items (suc n) ts = item_turn (items p n) (takes-items n) ts (after_end_array ts) refl

  member_turn : (more : Parse json.Members) → TakesAlways tree_members more → (n : ℕ) (o : Option (Option (List ℕ) × List Token)) → Takes (λ (k : Option (List ℕ)). 0) n o → Takes tree_members n (option_and_then (λ q. members_step p more q.0 q.1) o)
  member_turn more again n None h = tt
  member_turn more again n (Some (None, s)) h = omega (arith, h)
  member_turn more again n (Some (Some k, s)) h =
      wider (option_and_then (λ q. parse_map (json.member k q.0) (more q.1)) (p s)) (then_more tree_members (length s) (json.member k) (λ j b. refl) more again (p s) (one s))
    where
      wider : (o : Option (json.Members × List Token)) → Takes tree_members (length s) o → Takes tree_members n o
      wider None x = tt
      wider (Some q) x = omega (arith, x, h)

  takes-members : (n : ℕ) → TakesAlways tree_members (members p n)
  unfolding members
  takes-members zero ts = tt
  takes-members (suc n) ts = member_turn (members p n) (takes-members n) (length ts) (read_key ts) (key_end ts)

one_value : (a : Parse json.Items) (o : Parse json.Members) → TakesAlways tree_items a → TakesAlways tree_members o → TakesAlways tree_parts (value_with a o)
one_value a o h g [] = tt
one_value a o h g (token.begin_object ∷ ts) = mapped tree_members tree_parts (length ts) (suc (length ts)) json.object (λ ms k x. omega (arith, x)) (o ts) (g ts)
one_value a o h g (token.end_object ∷ ts) = tt
one_value a o h g (token.begin_array ∷ ts) = mapped tree_items tree_parts (length ts) (suc (length ts)) json.array (λ js k x. omega (arith, x)) (a ts) (h ts)
one_value a o h g (token.end_array ∷ ts) = tt
one_value a o h g (token.key s ∷ ts) = tt
one_value a o h g (token.string s ∷ ts) = omega arith
one_value a o h g (token.number s ∷ ts) = omega arith
one_value a o h g (token.boolean b ∷ ts) = omega arith
one_value a o h g (token.null ∷ ts) = omega arith
one_value a o h g (token.bad ∷ ts) = tt

takes-value : (d : ℕ) → TakesAlways tree_parts (value d)
unfolding value
takes-value zero = one_value (λ ts. None) (λ ts. None) (λ ts. tt) (λ ts. tt)
takes-value (suc d) =
    one_value (λ ts. items (value d) (length ts) ts) (λ ts. members (value d) (length ts) ts)
    (λ ts. takes-items (value d) (takes-value d) (length ts) ts)
    (λ ts. takes-members (value d) (takes-value d) (length ts) ts)

-- ---- the value's members, each key once

parts-put : (k : List ℕ) (d : Data) (ms : Members) → member_parts (put k d ms) ≤ parts d + member_parts ms
parts-put k d no_members = omega arith
parts-put k d (member l e ms) = by (slice_cmp nat_cmp k l) (parts-put k d ms)
  where
    by : (o : Ordering) → member_parts (put k d ms) ≤ parts d + member_parts ms
        → member_parts (match_ordering o (member k d (member l e ms)) (member l d ms) (member l e (put k d ms))) ≤ parts d + (parts e + member_parts ms)
    by Less h = omega arith
    by Equal h = omega arith
    by Greater h = omega (arith, h)

mutual
  parts-of_json : (j : json.Json) (d : Data) → of_json j ≡ Some d → parts d ≤ tree_parts j
  parts-of_json json.null d h = let same : null ≡ d = cc in omega (arith, ap parts same)
  parts-of_json (json.boolean b) d h = let same : boolean b ≡ d = cc in omega (arith, ap parts same)
  parts-of_json (json.number s) d h = let n = some_of number (number_of s) d h in omega (arith, ap parts n.2)
  parts-of_json (json.string s) d h = let same : string s ≡ d = cc in omega (arith, ap parts same)
  parts-of_json (json.array js) d h = let ds = some_of array (of_items js) d h in omega (arith, ap parts ds.2, parts-of_items js ds.0 ds.1)
  parts-of_json (json.object ms) d h = let ds = some_of object (of_members ms no_members) d h in omega (arith, ap parts ds.2, parts-of_members ms no_members ds.0 ds.1)

  parts-of_items : (js : json.Items) (ds : Items) → of_items js ≡ Some ds → item_parts ds ≤ tree_items js
  parts-of_items json.no_items ds h = let same : no_items ≡ ds = cc in omega (arith, ap item_parts same)
  parts-of_items (json.item j js) ds h =
      let first = found_both (λ d. option_map (item d) (of_items js)) (of_json j) ds h in
      let rest = some_of (item first.0) (of_items js) ds first.2 in
      omega (arith, parts-of_json j first.0 first.1, parts-of_items js rest.0 rest.1, ap item_parts rest.2)

  parts-of_members : (ms : json.Members) (found made : Members) → of_members ms found ≡ Some made → member_parts made ≤ tree_members ms + member_parts found
  parts-of_members json.no_members found made h = let same : found ≡ made = cc in omega (arith, ap member_parts same)
  parts-of_members (json.member k j ms) found made h =
      let first = found_both (λ d. of_members ms (put k d found)) (of_json j) made h in
      omega (arith, parts-of_json j first.0 first.1, parts-of_members ms (put k first.0 found) made first.2, parts-put k first.0 found)

last_is : (j k : json.Json) (ts : List Token) → if_last j ts ≡ Some k → j ≡ k
last_is j k [] h = cc
last_is j k (t ∷ ts) h = cc

-- a value has a part for each byte of its text, and one more, at most
parts-read : (text : List ℕ) (d : Data) → read text ≡ Some d → parts d ≤ suc (length text)
parts-read text d h =
    let tree = found_both of_json (option_and_then (λ p. if_last p.0 p.1) (value max_depth (tokens text))) d h in
    let pair = found_both (λ p. if_last p.0 p.1) (value max_depth (tokens text)) tree.0 tree.1 in
    let taken = subst (Takes tree_parts (length (tokens text))) pair.1 (takes-value max_depth (tokens text)) in
    omega (arith, parts-of_json tree.0 d tree.2, ap tree_parts (last_is pair.0.0 tree.0 pair.0.1 pair.2), taken, length-tokens text)

pub parts-json_of : (text : List ℕ) (d : Data) → json_of text ≡ Some d → parts d ≤ suc (length text)
unfolding json_of
parts-json_of text d h = by (is_utf8 text) h
  where
    by : (b : Bool) → cond b (read text) None ≡ Some d → parts d ≤ suc (length text)
    by true e = parts-read text d e
    by false e = cc

-- ---- a part

parts-get_member : (k : List ℕ) (ms : Members) (d : Data) → get_member k ms ≡ Some d → parts d ≤ member_parts ms
parts-get_member k no_members d h = cc
parts-get_member k (member l e ms) d h = by (slice_cmp nat_cmp k l) (λ g. parts-get_member k ms d g) h
  where
    by : (o : Ordering) → (get_member k ms ≡ Some d → parts d ≤ member_parts ms) → match_ordering o (get_member k ms) (Some e) (get_member k ms) ≡ Some d → parts d ≤ parts e + member_parts ms
    by Less deeper h = omega (arith, deeper h)
    by Equal deeper h = let same : e ≡ d = cc in omega (arith, ap parts same)
    by Greater deeper h = omega (arith, deeper h)

-- a value under a key is a smaller part
pub parts-get : (k : List ℕ) (whole d : Data) → get k whole ≡ Some d → suc (parts d) ≤ parts whole
parts-get k null d h = cc
parts-get k (boolean b) d h = cc
parts-get k (number n) d h = cc
parts-get k (string s) d h = cc
parts-get k (array ds) d h = cc
parts-get k (object ms) d h = omega (arith, parts-get_member k ms d h)

some_parts : (d : Data) → 1 ≤ parts d
some_parts null = omega arith
some_parts (boolean b) = omega arith
some_parts (number n) = omega arith
some_parts (string s) = omega arith
some_parts (array ds) = omega arith
some_parts (object ms) = omega arith

-- a list has no more items than parts
pub each-length : {A : Type 0} (f : Data → Option A) (ds : Items) (xs : List A) → each f ds ≡ Ok xs → length xs ≤ item_parts ds
each-length {A = A} f no_items xs h = by xs h
  where
    by : (xs : List A) → ◌≡◌ {A = Result (List A) ℕ} (Ok []) (Ok xs) → length xs ≤ 0
    by [] e = omega arith
    by (x ∷ xs) e = cc
each-length f (item d ds) ys h =
    let split = first_and_rest (f d) (each f ds) ys h in
    omega (arith, ap length split.4, each-length f ds split.1 split.3, some_parts d)

pub each-place : {A : Type 0} (f : Data → Option A) (ds : Items) (i : ℕ) → each f ds ≡ Err i → i < item_parts ds
each-place f no_items i h = cc
each-place {A} f (item d ds) i h = by (f d) (each f ds) (λ k g. each-place f ds k g) h
  where
    by : (o : Option A) (r : Result (List A) ℕ) → ((k : ℕ) → r ≡ Err k → k < item_parts ds) → with_first o r ≡ Err i → i < parts d + item_parts ds
    by None r deeper e = let same : 0 ≡ i = cc in omega (arith, some_parts d)
    by (Some x) (Ok xs) deeper e = cc
    by (Some x) (Err k) deeper e = let same : suc k ≡ i = cc in omega (arith, same, deeper k refl, some_parts d)

pub part_under : (k : List ℕ) (whole : Data) (o : Option Data) → o ≡ get k whole → IsOfText whole → IsPart o
part_under k whole None h text = tt
part_under k whole (Some d) h text = omega (arith, parts-get k whole d (sym h), text)

-- the place of an item of a part is a number of 32 bits
pub small_place : {A : Type 0} (f : Data → Option A) (d : Data) (ds : Items) (i : ℕ) → as_array d ≡ Some ds → parts d ≤ 16777216 → each f ds ≡ Err i → i < 16777216
small_place f null ds i h few e = cc
small_place f (boolean b) ds i h few e = cc
small_place f (number n) ds i h few e = cc
small_place f (string s) ds i h few e = cc
small_place f (array es) ds i h few e = let same : es ≡ ds = cc in omega (arith, ap item_parts same, each-place f ds i e, few)
small_place f (object ms) ds i h few e = cc

-- a list in a part has few items
pub few_items : {A : Type 0} (f : Data → Option A) (d : Data) (ds : Items) (xs : List A) → as_array d ≡ Some ds → parts d ≤ 16777216 → each f ds ≡ Ok xs → length xs ≤ 16777216
few_items f null ds xs h few e = cc
few_items f (boolean b) ds xs h few e = cc
few_items f (number n) ds xs h few e = cc
few_items f (string s) ds xs h few e = cc
few_items f (array es) ds xs h few e = let same : es ≡ ds = cc in omega (arith, ap item_parts same, each-length f ds xs e, few)
few_items f (object ms) ds xs h few e = cc

-- the value that was found
pub found_value : (o : Option Data) (d : Data) → or_fault fault.NotJson o ≡ Ok d → o ≡ Some d
found_value None d h = cc
found_value (Some e) d h = cc
