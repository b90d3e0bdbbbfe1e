use Rattle.base.proofs.Laws.{tests}
use Rattle.forms.specs.Inner.Rows.{rule_of, rows_of}
use Rattle.forms.proofs.Laws.{of_kind}
use Rattle.forms.proofs.tabled_form.Goals as goal

pub enum_told-1 : goal.enum_told-1
enum_told-1 c = search tests

pub form_of-requires : goal.form_of-requires
form_of-requires c = search tests

pub enum_told-in-BitField : goal.enum_told-in-BitField
enum_told-in-BitField c = search tests

pub form_of-requires-in-BitField : goal.form_of-requires-in-BitField
form_of-requires-in-BitField c = search tests

pub enum_told-in-Stop : goal.enum_told-in-Stop
enum_told-in-Stop c = search tests

pub form_of-requires-in-Stop : goal.form_of-requires-in-Stop
form_of-requires-in-Stop c = search tests

pub enum_told-in-Interchange : goal.enum_told-in-Interchange
enum_told-in-Interchange c = search tests

pub form_of-requires-in-Interchange : goal.form_of-requires-in-Interchange
form_of-requires-in-Interchange c = search tests

pub enum_told-in-CategoryClass : goal.enum_told-in-CategoryClass
enum_told-in-CategoryClass c = search tests

pub form_of-requires-in-CategoryClass : goal.form_of-requires-in-CategoryClass
form_of-requires-in-CategoryClass c = search tests

pub enum_told-in-Opening : goal.enum_told-in-Opening
enum_told-in-Opening c = search tests

pub form_of-requires-in-Opening : goal.form_of-requires-in-Opening
form_of-requires-in-Opening c = search tests

pub enum_told-in-Frequency : goal.enum_told-in-Frequency
enum_told-in-Frequency c = search tests

pub form_of-requires-in-Frequency : goal.form_of-requires-in-Frequency
form_of-requires-in-Frequency c = search tests

pub enum_told-in-Category : goal.enum_told-in-Category
enum_told-in-Category c = search tests

pub form_of-requires-in-Category : goal.form_of-requires-in-Category
form_of-requires-in-Category c = search tests

pub enum_told-in-Attribute : goal.enum_told-in-Attribute
enum_told-in-Attribute c = search tests

pub form_of-requires-in-Attribute : goal.form_of-requires-in-Attribute
form_of-requires-in-Attribute c = search tests

pub enum_told-in-Schedule : goal.enum_told-in-Schedule
enum_told-in-Schedule c = search tests

pub form_of-requires-in-Schedule : goal.form_of-requires-in-Schedule
form_of-requires-in-Schedule c = search tests

pub returns-in-Date : goal.returns-in-Date
unfolding rows_of rule_of
returns-in-Date c = of_kind c.args.line.now c.in-Date.is c.form_of.ensures

pub returns-in-BitField : goal.returns-in-BitField
unfolding rows_of rule_of
returns-in-BitField c = of_kind c.args.line.now c.in-BitField.is c.form_of-in-BitField.ensures

pub returns-in-Stop : goal.returns-in-Stop
unfolding rows_of rule_of
returns-in-Stop c = of_kind c.args.line.now c.in-Stop.is c.form_of-in-Stop.ensures

pub returns-in-Interchange : goal.returns-in-Interchange
unfolding rows_of rule_of
returns-in-Interchange c = of_kind c.args.line.now c.in-Interchange.is c.form_of-in-Interchange.ensures

pub returns-in-CategoryClass : goal.returns-in-CategoryClass
unfolding rows_of rule_of
returns-in-CategoryClass c = of_kind c.args.line.now c.in-CategoryClass.is c.form_of-in-CategoryClass.ensures

pub returns-in-Opening : goal.returns-in-Opening
unfolding rows_of rule_of
returns-in-Opening c = of_kind c.args.line.now c.in-Opening.is c.form_of-in-Opening.ensures

pub returns-in-Frequency : goal.returns-in-Frequency
unfolding rows_of rule_of
returns-in-Frequency c = of_kind c.args.line.now c.in-Frequency.is c.form_of-in-Frequency.ensures

pub returns-in-Category : goal.returns-in-Category
unfolding rows_of rule_of
returns-in-Category c = of_kind c.args.line.now c.in-Category.is c.form_of-in-Category.ensures

pub returns-in-Attribute : goal.returns-in-Attribute
unfolding rows_of rule_of
returns-in-Attribute c = of_kind c.args.line.now c.in-Attribute.is c.form_of-in-Attribute.ensures

pub returns-in-Schedule : goal.returns-in-Schedule
unfolding rows_of rule_of
returns-in-Schedule c = of_kind c.args.line.now c.in-Schedule.is c.form_of-in-Schedule.ensures
