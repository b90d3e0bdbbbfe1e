use Rattle.forms.proofs.Straight.{usual}
use Rattle.forms.proofs.usual_form.Goals as goal

pub enum_told-1 : goal.enum_told-1
enum_told-1 c = search usual

pub enum_told-in-BitField : goal.enum_told-in-BitField
enum_told-in-BitField c = search usual

pub usual_bit_field-requires : goal.usual_bit_field-requires
usual_bit_field-requires c = search usual

pub enum_told-in-Stop : goal.enum_told-in-Stop
enum_told-in-Stop c = search usual

pub usual_stop-requires : goal.usual_stop-requires
usual_stop-requires c = search usual

pub enum_told-in-Interchange : goal.enum_told-in-Interchange
enum_told-in-Interchange c = search usual

pub usual_interchange-requires : goal.usual_interchange-requires
usual_interchange-requires c = search usual

pub enum_told-in-CategoryClass : goal.enum_told-in-CategoryClass
enum_told-in-CategoryClass c = search usual

pub usual_class-requires : goal.usual_class-requires
usual_class-requires c = search usual

pub enum_told-in-Opening : goal.enum_told-in-Opening
enum_told-in-Opening c = search usual

pub enum_told-in-Frequency : goal.enum_told-in-Frequency
enum_told-in-Frequency c = search usual

pub enum_told-in-Category : goal.enum_told-in-Category
enum_told-in-Category c = search usual

pub enum_told-in-Attribute : goal.enum_told-in-Attribute
enum_told-in-Attribute c = search usual

pub enum_told-in-Schedule : goal.enum_told-in-Schedule
enum_told-in-Schedule c = search usual

pub returns-in-Date : goal.returns-in-Date
returns-in-Date c = search usual

pub returns-in-BitField : goal.returns-in-BitField
returns-in-BitField c = search usual

pub returns-in-Stop : goal.returns-in-Stop
returns-in-Stop c = search usual

pub returns-in-Interchange : goal.returns-in-Interchange
returns-in-Interchange c = search usual

pub returns-in-CategoryClass : goal.returns-in-CategoryClass
returns-in-CategoryClass c = search usual

pub returns-in-Opening : goal.returns-in-Opening
returns-in-Opening c = search usual

pub returns-in-Frequency : goal.returns-in-Frequency
returns-in-Frequency c = search usual

pub returns-in-Category : goal.returns-in-Category
returns-in-Category c = search usual

pub returns-in-Attribute : goal.returns-in-Attribute
returns-in-Attribute c = search usual

pub returns-in-Schedule : goal.returns-in-Schedule
returns-in-Schedule c = search usual
