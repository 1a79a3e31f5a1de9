-- What is handed out, beside what was sent.
use Rattle.std.specs.Prelude.{◌≡◌, Bool, true, false, List, [], ◌∷◌, ◌++◌, Option, Some, None}
use Rattle.h3_world.specs.Flow.{Part, Section}
use Rattle.h3_world.specs.Order.{section_of_part}
use Rattle.h3_world.specs.declared.event.Answer.{Answer}
use Rattle.h3_world.specs.declared.event.Answer.TheVariants as answer
use Rattle.h3_connection.specs.declared.event.Item.{Item}
use Rattle.h3_connection.specs.declared.event.Item.TheVariants as item
use Rattle.h3_connection.specs.declared.event.Pull.{Pull}
use Rattle.h3_connection.specs.declared.event.Pull.TheVariants as pull
use Rattle.h3_connection.specs.declared.lists.ListItem.{ListItem}
use Rattle.h3_connection.specs.declared.lists.ListPull.TheVariants as list
use Rattle.h3_headline.specs.Exactly.{IsAllOf, IsExactly, Reader}
use Rattle.h3_headline.specs.Messages.{MessageContent, SectionKind, contents_of, is_end_of}
use Rattle.h3_headline.specs.Messages.MessageContent.{FieldSection}

-- what an item hands out, and one with lists
abbrev pub item_contents : Item → List MessageContent
item_contents i = contents_of (answer.Pulled (pull.Item i))

abbrev pub listed_contents : ListItem → List MessageContent
listed_contents i = contents_of (answer.Listed (list.Item i))

-- the end, as an item
abbrev pub is_end_item : Item → Bool
is_end_item item.End = true
is_end_item _ = false

-- some contents are the beginning of others
pub record Begins (front all : List MessageContent) : Type 0 where
  pub rest : List MessageContent
  pub is : all ≡ front ++ rest

-- What an item hands out, as a pull or as one with lists: of a section it is the section, and else the same.
pub record GivesItem (r : Reader) (part : Option Part) (i : Item) (given : List MessageContent) : Type 0 where
  pub section : (k : SectionKind) (s : Section) → section_of_part part ≡ Some s → IsAllOf (IsExactly r) (item_contents i) (FieldSection k true s.fields ∷ []) → IsAllOf (IsExactly r) given (FieldSection k true s.fields ∷ [])
  pub others : section_of_part part ≡ None → given ≡ item_contents i

-- What an answer hands out: this of an item, and nothing where the pull does.
pub record GivesAs (r : Reader) (part : Option Part) (p : Pull) (a : Answer) : Type 0 where
  pub item : (i : Item) → p ≡ pull.Item i → GivesItem r part i (contents_of a)
  pub nothing : contents_of (answer.Pulled p) ≡ [] → contents_of a ≡ []
  pub ends : is_end_of a ≡ is_end_of (answer.Pulled p)
