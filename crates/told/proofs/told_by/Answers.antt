use Rattle.base.proofs.Laws.{tests}
use Rattle.told.proofs.told_by.Goals as goal

pub enum_told-1 : goal.enum_told-1
enum_told-1 c = search tests

pub opening_told-requires : goal.opening_told-requires
opening_told-requires c = search tests

pub enum_told-in-Frequency : goal.enum_told-in-Frequency
enum_told-in-Frequency c = search tests

pub category_told-requires : goal.category_told-requires
category_told-requires c = search tests

pub enum_told-in-Category : goal.enum_told-in-Category
enum_told-in-Category c = search tests

pub attribute_told-requires : goal.attribute_told-requires
attribute_told-requires c = search tests

pub enum_told-in-Attribute : goal.enum_told-in-Attribute
enum_told-in-Attribute c = search tests

pub call_told-requires : goal.call_told-requires
call_told-requires c = search tests

pub enum_told-in-Schedule : goal.enum_told-in-Schedule
enum_told-in-Schedule c = search tests

pub frequency_told-requires : goal.frequency_told-requires
frequency_told-requires c = search tests

pub enum_told-in-Other : goal.enum_told-in-Other
enum_told-in-Other c = search tests

pub returns-in-Opening : goal.returns-in-Opening
returns-in-Opening c = cc

pub returns-in-Frequency : goal.returns-in-Frequency
returns-in-Frequency c = cc

pub returns-in-Category : goal.returns-in-Category
returns-in-Category c = cc

pub returns-in-Attribute : goal.returns-in-Attribute
returns-in-Attribute c = cc

pub returns-in-Schedule : goal.returns-in-Schedule
returns-in-Schedule c = cc

pub returns-in-Other : goal.returns-in-Other
returns-in-Other c = cc
